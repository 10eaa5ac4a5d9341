use Rattle.std.proofs.Common.{◌+◌, [], true, List, drop, map, sym, ap, ◌∙◌}
use Rattle.session_lang.specs.Imports.{Replies}
use Rattle.wasm_tree.specs.declared.module.Element.{Element}
use Rattle.wasm_tree.specs.Views.{element_of}
use Rattle.wasm_lang_exec.specs.Store.{Store}
use Rattle.wasm_lang_exec.specs.Session.{entries_fit, with_entries}
use Rattle.wasm_run_operands.specs.Effects.{store_of}
use Rattle.wasm_run_start.proofs.Segments.{next_of, first_fits, others_fit}
use Rattle.wasm_run_start.proofs.elements.put_entries.Goals as goal

pub put_entry-requires : goal.put_entry-requires
put_entry-requires c =
    let none : Replies = record { left = []; last = 0 } in
    let s = store_of c.loop-element.state [] none in
    let rest = next_of c.args.elements.now c.loop-element.element-index c.element-item.result c.loop-element-test.true c.element-item.is in
    first_fits s (element_of c.element-item.result) (map element_of (drop (c.loop-element.element-index + 1) c.args.elements.now))
    (ap (λ (l : List Element). entries_fit s (map element_of l)) (sym rest) ∙ c.loop-element.invariant.fit [] none)

pub loop-element-preserved : goal.loop-element-preserved
loop-element-preserved c =
    let rest = next_of c.args.elements.now c.loop-element.element-index c.element-item.result c.loop-element-test.true c.element-item.is in
    let others = map element_of (drop (c.loop-element.element-index + 1) c.args.elements.now) in
    record {
      put = λ events replies.
          let s = store_of c.loop-element.state events replies in
          c.loop-element.invariant.put events replies ∙ ap (λ (l : List Element). with_entries (map element_of l) s) rest
          ∙ ap (λ (s : Store). with_entries others s) (sym (c.put_entry.ensures events replies));
      fit = λ events replies.
          let s = store_of c.loop-element.state events replies in
          ap (λ (s : Store). entries_fit s others) (c.put_entry.ensures events replies)
          ∙ others_fit s (element_of c.element-item.result) others (ap (λ (l : List Element). entries_fit s (map element_of l)) (sym rest) ∙ c.loop-element.invariant.fit events replies);
    }

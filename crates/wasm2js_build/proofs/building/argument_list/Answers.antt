use Rattle.std.proofs.Common.{◌≡◌, drop, [], ◌++◌, map, sym, ap, ◌∙◌, arith, append-nil}
use Rattle.std.proofs.Math.ListN.{drop_of_length-le}
use Rattle.sem_words.specs.Lists.{list_items}
use Rattle.asm_tree.specs.Views.{expr_view, exprs_in}
use Rattle.wasm2js_translation.specs.Words.{int_of}
use Rattle.wasm2js_terms.specs.Waits.{late_terms}
use Rattle.wasm2js_build.proofs.Lists.{arguments_are}
use Rattle.wasm2js_build.proofs.building.argument_list.Goals as goal

pub returns : goal.returns
returns c =
    let l = c.loop-term in
    let waits = c.args.waits.now in
    let es = map expr_view (list_items l.exprs) in
    let rest : drop l.term-index c.args.terms.now ≡ [] = drop_of_length-le c.args.terms.now (omega arith) in
    let all : es ≡ map int_of (late_terms waits c.args.terms.now) = sym (append-nil es) ∙ ap (λ ts. es ++ map int_of (late_terms waits ts)) (sym rest) ∙ l.invariant in
    ap exprs_in all ∙ arguments_are (late_terms waits c.args.terms.now)

use Rattle.std.proofs.Common.{◌≡◌, ◌++◌, ◌∷◌, [], List, map, ap, ◌∙◌, arith}
use Rattle.std.proofs.lemmas.Grind.{common_steps}
use Rattle.sem_words.specs.Lists.{list_items}
use Rattle.wasm_lang.specs.ReadingModule.{export_field}
use Rattle.wasm_tree.specs.Inputs.{input_of}
use Rattle.wasm_tree.proofs.Slices.{stands_trans, stands_self}
use Rattle.std.proofs.lemmas.List.{map-append}
use Rattle.std.proofs.lemmas.Result.{err_from_is_err_and}
use Rattle.wasm_lang.specs.Reading.{items_field}
use Rattle.wasm_tree.specs.declared.module.WasmExport.{WasmExport}
use Rattle.wasm_tree.specs.Views.{export_of}
use Rattle.wasm_binary_entries.specs.Views.{exports_of}
use Rattle.wasm_binary_entries.specs.Lent.{source_of, IsLentExport}
use Rattle.wasm_binary_entries.specs.Places.{export_place}
use Rattle.wasm_binary_entries.proofs.Lending.{row_start, row_step, located_from, lent_from}
use Rattle.wasm_binary_entries.proofs.ItemsInRow.{counted_start, items_step, items_stop}
use Rattle.wasm_binary_entries.proofs.entries.exports.Goals as goal

pub loop-i-init : goal.loop-i-init
loop-i-init c = record {
  value = counted_start (λ n. items_field export_field n (input_of c.args.input)) c.args.count (exports_of c.new-list.result) (ap (λ (l : List WasmExport). map export_of l) c.new-list.ensures);
  follows = stands_self c.args.input.at c.args.input.bytes;
  lent = row_start export_place c.args.count (input_of c.args.input) (IsLentExport (source_of c.args.input)) (list_items c.new-list.result) c.new-list.ensures;
}

pub loop-i-preserved : goal.loop-i-preserved
loop-i-preserved c =
    let s = items_step export_field c.args.count c.loop-i._i (exports_of c.loop-i.list) (input_of c.loop-i.rest) (input_of c.in_ok-item.after) (export_of c.in_ok-item.item) c.loop-i-test.true c.in_ok-item.ensures.value in
    let pushed : list_items c.push.new.self ≡ list_items c.loop-i.list ++ c.in_ok-item.item ∷ [] = grind (arith, common_steps) in
    record {
      value = rw (pushed, map-append) (c.loop-i.invariant.value ∙ s);
      follows = stands_trans c.in_ok-item.ensures.follows c.loop-i.invariant.follows;
      lent = rw pushed (row_step export_place c.args.count c.loop-i._i (input_of c.args.input) (input_of c.loop-i.rest) (input_of c.in_ok-item.after) (IsLentExport (source_of c.args.input)) (list_items c.loop-i.list) c.in_ok-item.item c.loop-i-test.true c.loop-i.invariant.lent
          (located_from (λ p. IsLentExport (source_of c.loop-i.rest) p c.in_ok-item.item) (λ p. IsLentExport (source_of c.args.input) p c.in_ok-item.item) (λ p h. lent_from (source_of c.loop-i.rest) (source_of c.args.input) c.loop-i.invariant.follows p c.in_ok-item.item.name h) c.in_ok-item.ensures.lent));
    }

pub returns-in_err-item-clause-value : goal.returns-in_err-item-clause-value
returns-in_err-item-clause-value c =
    let p = err_from_is_err_and c.from_residual.result c.from_residual.ensures.1 in
    rw (p.1, p.2) (c.loop-i.invariant.value ∙ items_stop export_field c.args.count c.loop-i._i (exports_of c.loop-i.list) (input_of c.loop-i.rest) _ c.loop-i-test.true c.in_err-item.ensures.value)

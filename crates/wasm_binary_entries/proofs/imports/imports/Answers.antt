use Rattle.std.proofs.Common.{◌≡◌, ◌++◌, ◌∷◌, [], List, map, ap, ◌∙◌, arith}
use Rattle.std.proofs.lemmas.Grind.{common_steps}
use Rattle.std.proofs.lemmas.List.{map-append}
use Rattle.std.proofs.lemmas.Result.{err_from_is_err_and}
use Rattle.sem_words.specs.Lists.{list_items}
use Rattle.wasm_lang.specs.ReadingModule.{imports_field}
use Rattle.wasm_tree.specs.Inputs.{input_of}
use Rattle.wasm_tree.specs.declared.module.Import.{Import}
use Rattle.wasm_binary_entries.proofs.ItemsInRow.{counted_start}
use Rattle.wasm_tree.proofs.Slices.{stands_trans, stands_self}
use Rattle.wasm_tree.specs.Views.{import_of}
use Rattle.wasm_binary_entries.specs.Views.{imports_of}
use Rattle.wasm_binary_entries.specs.Lent.{source_of, IsLentImport}
use Rattle.wasm_binary_entries.specs.Places.{import_places}
use Rattle.wasm_binary_entries.proofs.Lending.{row_start, row_step, located_from, import_from}
use Rattle.wasm_binary_entries.proofs.ImportsInRow.{imports_step, imports_stop}
use Rattle.wasm_binary_entries.proofs.imports.imports.Goals as goal

pub loop-i-init : goal.loop-i-init
loop-i-init c = record {
  functions_small = omega arith;
  globals_small = omega arith;
  value = counted_start (λ n. imports_field 0 0 n (input_of c.args.input)) c.args.count (imports_of c.new-list.result) (ap (λ (l : List Import). map import_of l) c.new-list.ensures);
  follows = stands_self c.args.input.at c.args.input.bytes;
  lent = row_start import_places c.args.count (input_of c.args.input) (IsLentImport (source_of c.args.input)) (list_items c.new-list.result) c.new-list.ensures;
}

pub loop-i-preserved : goal.loop-i-preserved
loop-i-preserved c =
    let s = imports_step c.loop-i.functions c.loop-i.globals c.args.count c.loop-i._i (imports_of c.loop-i.list) (input_of c.loop-i.rest) (input_of c.in_ok-item.after) (import_of c.in_ok-item.item) c.functions_in-functions.result c.globals_in-globals.result c.loop-i-test.true c.in_ok-item.ensures.value c.functions_in-functions.ensures.count c.globals_in-globals.ensures.count in
    let pushed : list_items c.push.new.self ≡ list_items c.loop-i.list ++ c.in_ok-item.item ∷ [] = grind (arith, common_steps) in
    record {
      functions_small = omega (arith, c.functions_in-functions.ensures.one, c.loop-i.invariant.functions_small);
      globals_small = omega (arith, c.globals_in-globals.ensures.one, c.loop-i.invariant.globals_small);
      value = rw (pushed, map-append) (c.loop-i.invariant.value ∙ s);
      follows = stands_trans c.in_ok-item.ensures.follows c.loop-i.invariant.follows;
      lent = rw pushed (row_step import_places c.args.count c.loop-i._i (input_of c.args.input) (input_of c.loop-i.rest) (input_of c.in_ok-item.after) (IsLentImport (source_of c.args.input)) (list_items c.loop-i.list) c.in_ok-item.item c.loop-i-test.true c.loop-i.invariant.lent
          (located_from (λ p. IsLentImport (source_of c.loop-i.rest) p c.in_ok-item.item) (λ p. IsLentImport (source_of c.args.input) p c.in_ok-item.item) (λ p h. import_from (source_of c.loop-i.rest) (source_of c.args.input) c.loop-i.invariant.follows p c.in_ok-item.item h) c.in_ok-item.ensures.lent));
    }

pub returns-in_err-item-clause-value : goal.returns-in_err-item-clause-value
returns-in_err-item-clause-value c =
    let p = err_from_is_err_and c.from_residual.result c.from_residual.ensures.1 in
    rw (p.1, p.2) (c.loop-i.invariant.value ∙ imports_stop c.loop-i.functions c.loop-i.globals c.args.count c.loop-i._i (imports_of c.loop-i.list) (input_of c.loop-i.rest) _ c.loop-i-test.true c.in_err-item.ensures.value)

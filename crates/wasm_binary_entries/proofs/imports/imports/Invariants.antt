use Rattle.std.proofs.Common.{◌≡◌, ◌-◌, ◌≤◌}
use Rattle.wasm_lang.specs.ReadingModule.{imports_field}
use Rattle.wasm_tree.specs.Inputs.{input_of, Continues}
use Rattle.sem_words.specs.Lists.{list_items}
use Rattle.wasm_binary_entries.specs.Lent.{source_of, IsLentImport}
use Rattle.wasm_binary_entries.specs.Places.{import_places}
use Rattle.wasm_binary_entries.specs.Views.{imports_of}
use Rattle.wasm_binary_entries.proofs.ItemsInRow.{with_front}
use Rattle.wasm_binary_entries.proofs.Lending.{InRow}
use Rattle.wasm_binary_entries.proofs.imports.imports.Given as goal

abbrev pub invariant-loop-i : goal.invariant-loop-i
invariant-loop-i l = record {
  functions_small : l.functions ≤ l._i;
  globals_small : l.globals ≤ l._i;
  value : imports_field 0 0 l.count (input_of l.input) ≡ with_front (imports_of l.list) (imports_field l.functions l.globals (l.count - l._i) (input_of l.rest));
  follows : Continues l.rest l.input;
  lent : InRow import_places l.count l._i (input_of l.input) (input_of l.rest) (IsLentImport (source_of l.input)) (list_items l.list);
}

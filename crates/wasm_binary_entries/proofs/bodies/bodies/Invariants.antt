use Rattle.std.proofs.Common.{◌≡◌, length, map, drop}
use Rattle.wasm_lang.specs.ReadingModule.{bodies_field}
use Rattle.wasm_tree.specs.Inputs.{input_of, Continues}
use Rattle.wasm_tree.specs.Views.{type_of}
use Rattle.sem_words.specs.Lists.{list_items}
use Rattle.wasm_binary_entries.specs.Lent.{source_of, IsLentBody}
use Rattle.wasm_binary_entries.specs.Places.{body_place}
use Rattle.wasm_binary_entries.specs.Views.{bodies_of}
use Rattle.wasm_binary_entries.proofs.ItemsInRow.{with_front}
use Rattle.wasm_binary_entries.proofs.Lending.{InRow}
use Rattle.wasm_binary_entries.proofs.bodies.bodies.Given as goal

abbrev pub invariant-loop-function : goal.invariant-loop-function
invariant-loop-function l = record {
  value : bodies_field (map type_of l.types) l.functions (input_of l.input) ≡ with_front (bodies_of l.list) (bodies_field (map type_of l.types) (drop l.function-index l.functions) (input_of l.rest));
  follows : Continues l.rest l.input;
  lent : InRow body_place (length l.functions) l.function-index (input_of l.input) (input_of l.rest) (IsLentBody (source_of l.input)) (list_items l.list);
}

use Rattle.std.proofs.Common.{◌≡◌, ◌-◌}
use Rattle.wasm_binary_entries.specs.Views.{types_of}
use Rattle.wasm_lang.specs.Reading.{items_field}
use Rattle.wasm_lang.specs.ReadingModule.{function_type_field}
use Rattle.wasm_tree.specs.Inputs.{input_of}
use Rattle.wasm_binary_entries.proofs.ItemsInRow.{with_front}
use Rattle.wasm_binary_entries.proofs.entries.function_types.Given as goal

abbrev pub invariant-loop-i : goal.invariant-loop-i
invariant-loop-i l = items_field function_type_field l.count (input_of l.input) ≡ with_front (types_of l.list) (items_field function_type_field (l.count - l._i) (input_of l.rest))

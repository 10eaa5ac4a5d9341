use Rattle.std.proofs.Common.{◌≡◌, ◌-◌}
use Rattle.wasm_binary_entries.specs.Views.{elements_of}
use Rattle.wasm_lang.specs.Reading.{items_field}
use Rattle.wasm_lang.specs.ReadingModule.{element_field}
use Rattle.wasm_tree.specs.Inputs.{input_of}
use Rattle.wasm_binary_entries.proofs.ItemsInRow.{with_front}
use Rattle.wasm_binary_entries.proofs.entries.elements.Given as goal

abbrev pub invariant-loop-i : goal.invariant-loop-i
invariant-loop-i l = items_field element_field l.count (input_of l.input) ≡ with_front (elements_of l.list) (items_field element_field (l.count - l._i) (input_of l.rest))

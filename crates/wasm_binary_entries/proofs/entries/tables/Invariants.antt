use Rattle.std.proofs.Common.{◌≡◌, ◌-◌}
use Rattle.sem_words.specs.Lists.{list_items}
use Rattle.wasm_lang.specs.Reading.{items_field}
use Rattle.wasm_lang.specs.ReadingModule.{table_field}
use Rattle.wasm_tree.specs.Inputs.{input_of}
use Rattle.wasm_binary_entries.proofs.ItemsInRow.{with_front}
use Rattle.wasm_binary_entries.proofs.entries.tables.Given as goal

abbrev pub invariant-loop-i : goal.invariant-loop-i
invariant-loop-i l = items_field table_field l.count (input_of l.input) ≡ with_front (list_items l.list) (items_field table_field (l.count - l._i) (input_of l.rest))

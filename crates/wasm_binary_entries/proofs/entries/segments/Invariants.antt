use Rattle.std.proofs.Common.{◌≡◌, ◌-◌}
use Rattle.sem_words.specs.Lists.{list_items}
use Rattle.wasm_binary_entries.specs.Lent.{source_of, IsLentSegment}
use Rattle.wasm_binary_entries.specs.Places.{segment_place}
use Rattle.wasm_binary_entries.specs.Views.{segments_of}
use Rattle.wasm_lang.specs.Reading.{items_field}
use Rattle.wasm_lang.specs.ReadingModule.{segment_field}
use Rattle.wasm_tree.specs.Inputs.{input_of, Continues}
use Rattle.wasm_binary_entries.proofs.ItemsInRow.{with_front}
use Rattle.wasm_binary_entries.proofs.Lending.{InRow}
use Rattle.wasm_binary_entries.proofs.entries.segments.Given as goal

abbrev pub invariant-loop-i : goal.invariant-loop-i
invariant-loop-i l = record {
  value : items_field segment_field l.count (input_of l.input) ≡ with_front (segments_of l.list) (items_field segment_field (l.count - l._i) (input_of l.rest));
  follows : Continues l.rest l.input;
  lent : InRow segment_place l.count l._i (input_of l.input) (input_of l.rest) (IsLentSegment (source_of l.input)) (list_items l.list);
}

use Rattle.std.proofs.Common.{◌≡◌, ◌-◌}
use Rattle.sem_words.specs.Lists.{list_items}
use Rattle.wasm_binary_entries.specs.Lent.{source_of, IsLentExport}
use Rattle.wasm_binary_entries.specs.Places.{export_place}
use Rattle.wasm_binary_entries.specs.Views.{exports_of}
use Rattle.wasm_lang.specs.Reading.{items_field}
use Rattle.wasm_lang.specs.ReadingModule.{export_field}
use Rattle.wasm_tree.specs.Inputs.{input_of, Continues}
use Rattle.wasm_binary_entries.proofs.ItemsInRow.{with_front}
use Rattle.wasm_binary_entries.proofs.Lending.{InRow}
use Rattle.wasm_binary_entries.proofs.entries.exports.Given as goal

abbrev pub invariant-loop-i : goal.invariant-loop-i
invariant-loop-i l = record {
  value : items_field export_field l.count (input_of l.input) ≡ with_front (exports_of l.list) (items_field export_field (l.count - l._i) (input_of l.rest));
  follows : Continues l.rest l.input;
  lent : InRow export_place l.count l._i (input_of l.input) (input_of l.rest) (IsLentExport (source_of l.input)) (list_items l.list);
}

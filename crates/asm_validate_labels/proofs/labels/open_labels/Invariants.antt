use Rattle.std.proofs.Common.{◌≡◌, length, take, drop}
use Rattle.asm_tree.specs.Views.{texts_view}
use Rattle.asm_lang_valid.specs.Typing as typing
use Rattle.asm_validate_labels.specs.Open.{labels_in}
use Rattle.asm_validate_labels.proofs.labels.open_labels.Given as goal

abbrev pub invariant-loop-name : goal.invariant-loop-name
invariant-loop-name l = record {
  are_new : typing.new_labels (texts_view l.names) (labels_in l.initial.labels.open.entries) ≡ typing.new_labels (texts_view (drop l.name-index l.names)) (labels_in l.labels.open.entries);
  opened : typing.labels_in l.of_loop (texts_view l.names) (labels_in l.initial.labels.open.entries) ≡ typing.labels_in l.of_loop (texts_view (drop l.name-index l.names)) (labels_in l.labels.open.entries);
  front : take (length l.initial.labels.open.entries) l.labels.open.entries ≡ l.initial.labels.open.entries;
}

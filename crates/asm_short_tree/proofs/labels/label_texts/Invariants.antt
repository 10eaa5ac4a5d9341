use Rattle.std.proofs.Common.{◌≡◌, take}
use Rattle.sem_words.specs.Lists.{list_items}
use Rattle.asm_tree.specs.Views.{texts_view}
use Rattle.asm_short_tree.specs.Bodies.{new_labels}
use Rattle.asm_short_tree.proofs.labels.label_texts.Given as goal

abbrev pub invariant-loop-label : goal.invariant-loop-label
invariant-loop-label l = texts_view (list_items l.texts) ≡ new_labels (take l.label-index l.labels)

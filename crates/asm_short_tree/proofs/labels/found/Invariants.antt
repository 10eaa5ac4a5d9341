use Rattle.std.proofs.Common.{◌≡◌}
use Rattle.sem_words.specs.Lists.{text_bytes}
use Rattle.asm_short_lang.specs.Renaming.{in_place}
use Rattle.asm_short_tree.specs.Bodies.{old_labels, new_labels}
use Rattle.asm_short_tree.proofs.Around.{place_from}
use Rattle.asm_short_tree.proofs.labels.found.Given as goal

abbrev pub invariant-loop-label : goal.invariant-loop-label
invariant-loop-label l = place_from l.labels l.label-index (text_bytes l.name) ≡ in_place (old_labels l.labels) (new_labels l.labels) (text_bytes l.name)

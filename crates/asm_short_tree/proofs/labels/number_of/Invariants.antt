use Rattle.std.proofs.Common.{◌≡◌}
use Rattle.sem_words.specs.Lists.{text_bytes}
use Rattle.asm_short_tree.specs.Bodies.{place_by}
use Rattle.asm_short_tree.proofs.labels.number_of.Given as goal

abbrev pub invariant-loop-around : goal.invariant-loop-around
invariant-loop-around l = place_by l.around (text_bytes l.name) ≡ place_by l.initial.around (text_bytes l.name)

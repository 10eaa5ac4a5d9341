use Rattle.std.proofs.Common.{◌≡◌, drop, map}
use Rattle.sem_words.specs.declared.text.Text.{Text}
use Rattle.sem_words.specs.Lists.{text_bytes}
use Rattle.asm_run_emit_bodies.specs.Targets.{those}
use Rattle.asm_run_emit_bodies.proofs.targets.Targets.open_all.Given as goal

abbrev pub invariant-loop-label : goal.invariant-loop-label
invariant-loop-label l = those (map (λ (t : Text). text_bytes t) (drop l.label-index l.labels)) l.at l.self ≡ those (map (λ (t : Text). text_bytes t) l.labels) l.at l.initial.self

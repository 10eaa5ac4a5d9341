use Rattle.std.proofs.Common.{◌≡◌, ◌++◌, drop}
use Rattle.wat_lang.specs.Modules as spec
use Rattle.wat_read_tokens.specs.Marks.{marks_of}
use Rattle.wat_read_bodies.proofs.uses.used.Given as goal

abbrev pub invariant-loop-token : goal.invariant-loop-token
invariant-loop-token l = l.numbers.items ++ spec.used (λ _. l.ids) l.space (marks_of (drop l.token-index l.parts)) ≡ spec.used (λ _. l.ids) l.space (marks_of l.parts)

use Rattle.std.proofs.Common.{ℕ, ◌≤◌, List}
use Rattle.wat_lang.specs.Grammar.{Marked}
use Rattle.wat_marks.specs.Readings.{HasRead, left_of}
use Rattle.wat_marks.proofs.reading.MarkReader.next.Given as goal

-- the tokens that were passed over are there for the form alone
abbrev pub invariant-loop-self : goal.invariant-loop-self
invariant-loop-self l = ((source : List ℕ) (ks : List Marked) → HasRead source l.fn.self ks → HasRead source l.self ks) × (left_of l.self ≤ left_of l.fn.self)

abbrev pub decreases-loop-self : goal.decreases-loop-self
decreases-loop-self l = left_of l.self

use Rattle.std.proofs.Common.{◌-◌, length}
use Rattle.wat_tokens.proofs.PieceSteps.{Pushed}
use Rattle.wat_tokens.proofs.strings.push_value.Given as goal

abbrev pub invariant-loop-n : goal.invariant-loop-n
invariant-loop-n l = Pushed l.s l.fn.bytes.items l.n l.bytes.items

abbrev pub decreases-loop-n : goal.decreases-loop-n
decreases-loop-n l = length l.s - l.n

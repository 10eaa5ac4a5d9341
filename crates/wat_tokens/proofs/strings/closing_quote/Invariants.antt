use Rattle.std.proofs.Common.{◌-◌, length}
use Rattle.wat_tokens.specs.Closed.{Scanned}
use Rattle.wat_tokens.proofs.strings.closing_quote.Given as goal

abbrev pub invariant-loop-n : goal.invariant-loop-n
invariant-loop-n l = Scanned l.s l.n l.plain

abbrev pub decreases-loop-n : goal.decreases-loop-n
decreases-loop-n l = length l.s - l.n

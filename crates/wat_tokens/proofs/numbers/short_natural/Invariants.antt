use Rattle.std.proofs.Common.{◌-◌, ◌<◌, ◌≤◌, ◌^◌, length}
use Rattle.std.specs.Prelude.{nat_lt}
use Rattle.wat_tokens.proofs.Digits.{Seen}
use Rattle.wat_tokens.specs.declared.numbers.Base.TheVariants.{Ten}
use Rattle.wat_tokens.proofs.numbers.short_natural.Given as goal

abbrev pub invariant-loop-n : goal.invariant-loop-n
invariant-loop-n l = (l.n ≤ length l.s) × (l.value < 10 ^ l.n) × Seen Ten l.s l.n l.value (nat_lt 0 l.n)

abbrev pub decreases-loop-n : goal.decreases-loop-n
decreases-loop-n l = length l.s - l.n

use Rattle.std.proofs.Common.{◌≡◌, false, drop, subst, ℕ, arith}
use Rattle.wat_lang.specs.Tokens.{is_scalar}
use Rattle.wat_tokens.proofs.Scalars.{past}
use Rattle.wat_tokens.proofs.pieces.capped_value.Goals as goal

pub returns-then-value-ge1114112-clause-past : goal.returns-then-value-ge1114112-clause-past
returns-then-value-ge1114112-clause-past c = λ is.
    subst (λ (v : ℕ). is_scalar v ≡ false) c.loop-digit.invariant.1 (past c.loop-digit.value (drop c.loop-digit.digit-index c.args.digits.now) (omega (arith, c.if-value-ge1114112.true)))

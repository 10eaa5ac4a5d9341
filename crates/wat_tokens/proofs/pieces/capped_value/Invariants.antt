use Rattle.std.proofs.Common.{◌≡◌, ◌<◌, drop}
use Rattle.wat_lang.specs.Tokens.{value_in}
use Rattle.wat_tokens.proofs.pieces.capped_value.Given as goal

abbrev pub invariant-loop-digit : goal.invariant-loop-digit
invariant-loop-digit l = (l.value < 17829120) × (value_in 16 l.value (drop l.digit-index l.digits) ≡ value_in 16 0 l.digits)

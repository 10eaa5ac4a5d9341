-- Numbers in decimal digits.
use Rattle.std.proofs.Common.{◌≡◌, ℕ, zero, suc, ◌<◌, ◌^◌}
use Rattle.std.proofs.Math.Nat.{zero-lt-suc}
use Rattle.std.specs.Fmt.{decimal}
use Rattle.std.proofs.lemmas.Fmt.{decimal_digit, decimal-digits_of}
use Rattle.wasm2js_translation.specs.Names.{numeral}

pub decimal_is_numeral : (n : ℕ) → n < 2 ^ 64 → decimal n ≡ numeral n
decimal_is_numeral zero small = decimal_digit 0 (zero-lt-suc 9)
decimal_is_numeral (suc n) small = decimal-digits_of (suc n) (zero-lt-suc n) small

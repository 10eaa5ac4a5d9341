-- Numbers past all scalar values.
use Rattle.std.proofs.Common.{◌≡◌, ℕ, ◌+◌, ◌*◌, ◌≤◌, false, true, ◌&&◌, List, [], ◌∷◌, refl, arith}
use Rattle.std.proofs.lemmas.Bool.{le-ltb}
use Rattle.std.specs.Prelude.{nat_le}
use Rattle.wat_lang.specs.Tokens.{digit_value, is_scalar, value_in}

grows : (n : ℕ) (ds : List ℕ) → n ≤ value_in 16 n ds
grows n [] = omega arith
grows n (d ∷ ds) = let le = grows (16 * n + digit_value d) ds in omega (arith, le)

past_all : (v : ℕ) → 1114112 ≤ v → is_scalar v ≡ false
past_all v le = rw (le-ltb v 55296 (omega (arith, le)), le-ltb v 1114112 le) (elim (nat_le 57344 v) as (λ b. (b && false) ≡ false) [ true ↦ refl | false ↦ refl ])

pub past : (v : ℕ) (ds : List ℕ) → 1114112 ≤ v → is_scalar (value_in 16 v ds) ≡ false
past v ds le = let more = grows v ds in past_all (value_in 16 v ds) (omega (arith, le, more))

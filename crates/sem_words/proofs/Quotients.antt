-- Numbers of 32 bits, and what is left of their quotients.
use Rattle.std.proofs.Common.{◌≡◌, ℕ, zero, suc, ◌-◌, ◌%◌, ◌^◌, refl, sym, ap, ◌∙◌, arith, ℤ, pos, negsuc, neg_ℤ, ◌≤ℤ◌, ◌<ℤ◌}
use Rattle.std.proofs.Math.Nat.{zero-mod}
use Rattle.std.specs.Prelude.{IsTrue, int_rem, unsigned_abs}
use Rattle.std.proofs.lemmas.Int.{ints}
use Rattle.std.proofs.lemmas.Bool.Decides.{nat_tests}
use Rattle.sem_words.specs.JsOperators.{are_alike}
use Rattle.sem_words.specs.JsValues.{IsFrac}

-- both lie in the range of all 32-bit numbers
pub record AreIn (x y : ℤ) : Type 0 where
  pub x_low : negsuc (2 ^ 31 - 1) ≤ℤ x
  pub x_high : x <ℤ pos (2 ^ 32)
  pub y_low : negsuc (2 ^ 31 - 1) ≤ℤ y
  pub y_high : y <ℤ pos (2 ^ 32)

pub within : (x y : ℤ) → IsTrue (are_alike x y) → AreIn x y
within x y t = grind (arith, ints, nat_tests)

-- beside a negative number there are only signed ones
beside_negative : (x y : ℤ) → IsTrue (are_alike x y) → y <ℤ pos 0 → x <ℤ pos (2 ^ 31)
beside_negative x y t h = grind (arith, ints, nat_tests)

abs-neg : (z : ℤ) → unsigned_abs (neg_ℤ z) ≡ unsigned_abs z
abs-neg (pos zero) = refl
abs-neg (pos (suc n)) = refl
abs-neg (negsuc n) = refl

neg-neg : (z : ℤ) → neg_ℤ (neg_ℤ z) ≡ z
neg-neg (pos zero) = refl
neg-neg (pos (suc n)) = refl
neg-neg (negsuc n) = refl

rem-neg : (x y : ℤ) → int_rem (neg_ℤ x) (neg_ℤ y) ≡ neg_ℤ (int_rem x y)
rem-neg (pos zero) y = ap pos (zero-mod (unsigned_abs (neg_ℤ y))) ∙ ap (λ (n : ℕ). neg_ℤ (pos n)) (sym (zero-mod (unsigned_abs y)))
rem-neg (pos (suc a)) y = ap (λ (n : ℕ). neg_ℤ (pos (suc a % n))) (abs-neg y)
rem-neg (negsuc a) y = ap (λ (n : ℕ). pos (suc a % n)) (abs-neg y) ∙ sym (neg-neg (pos (suc a % unsigned_abs y)))

-- a quotient by a negative number, with both signs turned
pub turned : (x y : ℤ) → IsTrue (are_alike x y) → y <ℤ pos 0 → ¬ (int_rem x y ≡ pos 0) → IsFrac (neg_ℤ x) (neg_ℤ y)
turned x y alike below no_whole =
    let r = within x y alike in
    let x_small = beside_negative x y alike below in
    record {
      low = omega (arith, ints);
      high = omega (arith, ints);
      above_zero = omega (arith, ints);
      divisor = omega (arith, ints);
      no_whole = λ e. no_whole (sym (neg-neg (int_rem x y)) ∙ ap neg_ℤ (sym (rem-neg x y) ∙ e));
    }

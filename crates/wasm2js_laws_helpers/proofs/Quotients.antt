-- The words of quotients and remainders of JavaScript's numbers.
use Rattle.std.proofs.Common.{◌≡◌, ℕ, zero, suc, ◌%◌, ◌^◌, Bool, true, false, ◌&&◌, ℤ, pos, negsuc, neg_ℤ, refl, sym, ap, ◌∙◌, arith, true≢false}
use Rattle.std.specs.Prelude.{if◌then◌else◌, ◌==◌, int_div, int_rem}
use Rattle.std.proofs.lemmas.Bool.Decides.{nat_tests}
use Rattle.std.proofs.lemmas.Int.{ints}
use Rattle.std.proofs.Math.Nat.{zero-div}
use Rattle.sem_words.specs.declared.js_value.JsValue.TheVariants.{Whole, Frac, NegZero, NaN}
use Rattle.sem_words.specs.JsValues.{to_uint32_of}
use Rattle.sem_words.specs.JsOperators.{is_zero, is_negative, by_zero_of, quotient_of, remainder_of}
use Rattle.sem_words.specs.Words.{word_of}

zero_word : (z : ℤ) → is_zero z ≡ true → word_of 32 z ≡ 0
zero_word z h = grind (arith, ints, nat_tests)

suc_is_not_zero : (n : ℕ) → (suc n == 0) ≡ false
suc_is_not_zero n = grind (arith, nat_tests)

is_not_below : (n : ℕ) → is_negative (pos n) ≡ false
is_not_below n = grind (arith, ints, nat_tests)

-- the word of a quotient by such a divisor is that of its whole part
pub record Divides (z : ℤ) : Type 0 where
  not_zero : is_zero z ≡ false
  none : (y : ℤ) → is_zero y ≡ true → 0 ≡ word_of 32 (int_div y z)
  fraction : (y : ℤ) → to_uint32_of (if is_negative z then Frac (neg_ℤ y) (neg_ℤ z) else Frac y z) ≡ word_of 32 (int_div y z)

turned : (y : ℤ) (b : ℕ) → int_div (neg_ℤ y) (pos (suc b)) ≡ int_div y (negsuc b)
turned (pos zero) b = let e = zero-div (suc b) in ap pos e ∙ ap (λ (n : ℕ). neg_ℤ (pos n)) (sym e)
turned (pos (suc a)) b = refl
turned (negsuc a) b = refl

none_above : (b : ℕ) (y : ℤ) → is_zero y ≡ true → 0 ≡ word_of 32 (int_div y (pos (suc b)))
none_above b (pos zero) h = ap (λ (n : ℕ). n % 2 ^ 32) (sym (zero-div (suc b)))
none_above b (pos (suc a)) h = absurd (true≢false (sym h ∙ suc_is_not_zero a))
none_above b (negsuc a) h = absurd (true≢false (sym h ∙ suc_is_not_zero a))

none_below : (b : ℕ) (y : ℤ) → is_zero y ≡ true → 0 ≡ word_of 32 (int_div y (negsuc b))
none_below b (pos zero) h = ap (λ (n : ℕ). word_of 32 (neg_ℤ (pos n))) (sym (zero-div (suc b)))
none_below b (pos (suc a)) h = absurd (true≢false (sym h ∙ suc_is_not_zero a))
none_below b (negsuc a) h = absurd (true≢false (sym h ∙ suc_is_not_zero a))

pub by_positive : (b : ℕ) → Divides (pos (suc b))
by_positive b = record {
  not_zero = suc_is_not_zero b;
  none = none_above b;
  fraction = λ y. ap (λ t. to_uint32_of (if t then Frac (neg_ℤ y) (neg_ℤ (pos (suc b))) else Frac y (pos (suc b)))) (is_not_below (suc b));
}

pub by_negative : (b : ℕ) → Divides (negsuc b)
by_negative b = record { not_zero = suc_is_not_zero b; none = none_below b; fraction = λ y. ap (word_of 32) (turned y b) }

pub quotient_word : (y z : ℤ) → Divides z → word_of 32 (int_div y z) ≡ to_uint32_of (quotient_of y z)
quotient_word y z d =
    by (is_zero (int_rem y z)) (is_zero y) (is_negative z) refl refl
    ∙ ap (λ b. to_uint32_of (if b then by_zero_of y else (if is_zero (int_rem y z) then (if is_zero y && is_negative z then NegZero else Whole (int_div y z)) else (if is_negative z then Frac (neg_ℤ y) (neg_ℤ z) else Frac y z)))) (sym d.not_zero)
  where
    by : (whole zero negative : Bool) → is_zero y ≡ zero → is_negative z ≡ negative
        → word_of 32 (int_div y z) ≡ to_uint32_of (if whole then (if zero && negative then NegZero else Whole (int_div y z)) else (if negative then Frac (neg_ℤ y) (neg_ℤ z) else Frac y z))
    by true true true is n = sym (d.none y is)
    by true true false is n = refl
    by true false negative is n = refl
    by false other negative is n = sym (d.fraction y) ∙ ap (λ b. to_uint32_of (if b then Frac (neg_ℤ y) (neg_ℤ z) else Frac y z)) n

pub remainder_word : (y z : ℤ) → is_zero z ≡ false → word_of 32 (int_rem y z) ≡ to_uint32_of (remainder_of y z)
remainder_word y z h =
    by (is_zero (int_rem y z)) (is_negative y) refl
    ∙ ap (λ b. to_uint32_of (if b then NaN else (if is_zero (int_rem y z) && is_negative y then NegZero else Whole (int_rem y z)))) (sym h)
  where
    by : (zero negative : Bool) → is_zero (int_rem y z) ≡ zero → word_of 32 (int_rem y z) ≡ to_uint32_of (if zero && negative then NegZero else Whole (int_rem y z))
    by true true is = zero_word (int_rem y z) is
    by true false is = refl
    by false negative is = refl

pub divides : (z : ℤ) → is_zero z ≡ false → Divides z
divides (pos zero) h = absurd (cc h)
divides (pos (suc b)) h = by_positive b
divides (negsuc b) h = by_negative b

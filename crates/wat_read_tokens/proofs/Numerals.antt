-- Numbers in and out of their ranges.
use Rattle.std.proofs.Common.{◌≡◌, ℕ, zero, suc, ◌+◌, ◌-◌, ◌^◌, ◌<◌, ◌≤◌, Bool, true, false, not, ◌&&◌, List, [], ◌∷◌, Option, Some, None, refl, sym, ap, ◌∙◌, subst, min, arith, ◌⊎◌, inl, inr}
use Rattle.std.proofs.lemmas.Int.{ints}
use Rattle.std.proofs.lemmas.Bool.Decides.{nat_tests}
use Rattle.std.proofs.lemmas.Bool.{eqb-true, eqb-false, false≢true, cases_lt}
use Rattle.std.proofs.Math.Pow.{pow-lt}
use Rattle.std.specs.Prelude.{◌==◌, if◌then◌else◌, option_map, ℤ, pos, negsuc, int_le, int_lt, ◌<ℤ◌, ◌≤ℤ◌}
use Rattle.wat_lang.specs.Tokens.{begins_with}
use Rattle.wat_lang.specs.Numbers.{natural_of, number_of, minus}
use Rattle.wat_lang.specs.Modules.{natural_or_0, exponent_from, exponent_of}
use Rattle.wat_lang.specs.Rows.{is_between, is_out, is_out_32}
use Rattle.wat_tokens.specs.Numbers.{IsFar}
use Rattle.wat_read_tokens.specs.declared.numbers.Between.{Between}
use Rattle.wat_read_tokens.specs.declared.numbers.Between.TheVariants.{Naturals, Words32, Words64}
use Rattle.wat_read_tokens.specs.Between.{low_of, high_of, capped, HasSign}

-- ---- far numbers

and_false : (a b : Bool) → b ≡ false → (a && b) ≡ false
and_false true b h = h
and_false false b h = refl

false_and : (a b : Bool) → a ≡ false → (a && b) ≡ false
false_and true b h = absurd (false≢true (sym h))
false_and false b h = refl

far_between : (b : Between) (z : ℤ) → IsFar z → is_between (low_of b) (high_of b) z ≡ false
far_between Naturals (pos n) h = and_false (int_le (pos 0) (pos n)) (int_lt (pos n) (pos (2 ^ 32))) (grind (arith, ints, nat_tests))
far_between Naturals (negsuc n) h = refl
far_between Words32 (pos n) h = and_false (int_le (negsuc (2 ^ 31 - 1)) (pos n)) (int_lt (pos n) (pos (2 ^ 32))) (grind (arith, ints, nat_tests))
far_between Words32 (negsuc n) h = false_and (int_le (negsuc (2 ^ 31 - 1)) (negsuc n)) (int_lt (negsuc n) (pos (2 ^ 32))) (grind (arith, ints, nat_tests))
far_between Words64 (pos n) h = and_false (int_le (negsuc (2 ^ 63 - 1)) (pos n)) (int_lt (pos n) (pos (2 ^ 64))) (grind (arith, ints, nat_tests))
far_between Words64 (negsuc n) h = false_and (int_le (negsuc (2 ^ 63 - 1)) (negsuc n)) (int_lt (negsuc n) (pos (2 ^ 64))) (grind (arith, ints, nat_tests))

pub far_excluded : (b : Between) (z : ℤ) → IsFar z → true ≡ not (is_between (low_of b) (high_of b) z)
far_excluded b z h = sym (ap not (far_between b z h))

-- ---- numbers of 32 bits

pub out_below : (v : ℤ) → v <ℤ pos 0 → is_out_32 (Some v) ≡ true
out_below (pos n) h = absurd (omega (arith, ints))
out_below (negsuc n) h = refl

pub out_above : (v : ℤ) → pos (2 ^ 32) ≤ℤ v → is_out_32 (Some v) ≡ true
out_above (pos n) h = ap not (and_false (int_le (pos 0) (pos n)) (int_lt (pos n) (pos (2 ^ 32))) (grind (arith, ints, nat_tests)))
out_above (negsuc n) h = absurd (omega (arith, ints))

-- ---- signs

below_0 : (o : Option ℕ) → natural_or_0 (option_map minus o) ≡ 0
below_0 None = refl
below_0 (Some zero) = refl
below_0 (Some (suc n)) = refl

from_0 : (o : Option ℕ) → HasSign false (option_map pos o)
from_0 None = tt
from_0 (Some n) = refl

pub has_sign : (bs : List ℕ) → HasSign (begins_with 45 bs) (number_of bs)
has_sign [] = tt
has_sign (b ∷ bs) = by (b == 45) (b == 43)
  where
    by : (t u : Bool) → HasSign t (if t then option_map minus (natural_of bs) else (if u then option_map pos (natural_of bs) else option_map pos (natural_of (b ∷ bs))))
    by true u = below_0 (natural_of bs)
    by false true = from_0 (natural_of bs)
    by false false = from_0 (natural_of (b ∷ bs))

pub far_capped : (negative : Bool) (z : ℤ) → IsFar z → HasSign negative (Some z) → (if negative then 0 else 2 ^ 64 - 1) ≡ capped (Some z)
far_capped true z h s = sym (ap (λ n. min n (2 ^ 64 - 1)) s)
far_capped false (pos n) h s = omega (arith, h)
far_capped false (negsuc n) h s = absurd cc

-- ---- powers of two

pow_small : (k : ℕ) → k < 32 → 2 ^ k < 2 ^ 32
pow_small k h = pow-lt h

pub exponent_past : (count k n : ℕ) → k + count ≤ 32 → 2 ^ 32 ≤ n → exponent_from count k n ≡ None
exponent_past zero k n w h = refl
exponent_past (suc count) k n w h = by (exponent_past count (k + 1) n (omega arith) h) (2 ^ k == n) refl
  where
    by : exponent_from count (k + 1) n ≡ None → (t : Bool) → (2 ^ k == n) ≡ t → (let x : Option ℕ = elim t [ true ↦ Some k | false ↦ exponent_from count (k + 1) n ] in x) ≡ None
    by below true e = absurd (let p = pow_small k (omega arith) in let q = eqb-true (2 ^ k) n e in omega arith)
    by below false e = below

pub exponent_capped : (o : Option ℤ) → exponent_of (capped o) ≡ exponent_of (natural_or_0 o)
exponent_capped o = by (natural_or_0 o) (cases_lt (2 ^ 64 - 1) (natural_or_0 o))
  where
    by : (n : ℕ) → (2 ^ 64 - 1 < n) ⊎ (n ≤ 2 ^ 64 - 1) → exponent_from 32 0 (min n (2 ^ 64 - 1)) ≡ exponent_from 32 0 n
    by n (inr h) = ap (exponent_from 32 0) (let e : min n (2 ^ 64 - 1) ≡ n = omega arith in e)
    by n (inl h) = exponent_past 32 0 (min n (2 ^ 64 - 1)) (omega arith) (omega arith) ∙ sym (exponent_past 32 0 n (omega arith) (omega arith))

exponent_by : (k n : ℕ) → k < 32 → exponent_from (32 - k) k n ≡ (let x : Option ℕ = elim (2 ^ k == n) [ true ↦ Some k | false ↦ exponent_from (32 - (k + 1)) (k + 1) n ] in x)
exponent_by k n h = ap (λ c. exponent_from c k n) (let q : 32 - k ≡ suc (32 - (k + 1)) = omega arith in q)

pub exponent_next : (k n : ℕ) → k < 32 → (2 ^ k ≡ n → ⊥) → exponent_from (32 - (k + 1)) (k + 1) n ≡ exponent_from (32 - k) k n
exponent_next k n h other = sym (exponent_by k n h ∙ by (2 ^ k == n) refl)
  where
    by : (t : Bool) → (2 ^ k == n) ≡ t → (let x : Option ℕ = elim t [ true ↦ Some k | false ↦ exponent_from (32 - (k + 1)) (k + 1) n ] in x) ≡ exponent_from (32 - (k + 1)) (k + 1) n
    by true e = absurd (other (eqb-true (2 ^ k) n e))
    by false e = refl

pub exponent_here : (k n : ℕ) → k < 32 → 2 ^ k ≡ n → exponent_from (32 - k) k n ≡ Some k
exponent_here k n h same = exponent_by k n h ∙ by (2 ^ k == n) refl
  where
    by : (t : Bool) → (2 ^ k == n) ≡ t → (let x : Option ℕ = elim t [ true ↦ Some k | false ↦ exponent_from (32 - (k + 1)) (k + 1) n ] in x) ≡ Some k
    by true e = refl
    by false e = absurd (eqb-false (2 ^ k) n e same)

-- The counts of bits and the rotations are those of std.
use Rattle.std.proofs.Common.{◌≡◌, ℕ, zero, suc, ◌+◌, ◌*◌, ◌/◌, ◌%◌, ◌^◌, ◌<◌, ◌≤◌, cond, eqb, refl, sym, ap, ◌∙◌, subst, arith}
use Rattle.std.proofs.Math.Nat.{zero-add, suc-add, pow-suc}
use Rattle.std.proofs.Math.Pow.{pow_mono}
use Rattle.std.proofs.lemmas.Nat.{pow_pos, leading_top, ones_cat, div-add-mod'}
use Rattle.std.proofs.lemmas.Bool.Decides.{nat_tests}
use Rattle.std.specs.Int.Count.{count_leading_zeros, count_trailing_zeros, ones, ones_in, under}
use Rattle.sem_words.specs.Words.{leading_zeros_of, trailing_zeros_of, set_bits_of}

-- ---- leading zeros

zeros_of_zero : (k : ℕ) → leading_zeros_of k 0 ≡ k
unfolding leading_zeros_of
zeros_of_zero zero = refl
zeros_of_zero (suc k) = let p = pow_pos k in let e = zeros_of_zero k in grind (arith, nat_tests)

zeros_above : (m j a : ℕ) → 2 ^ j ≤ a → a < 2 ^ suc j → leading_zeros_of (m + suc j) a ≡ m
unfolding leading_zeros_of
zeros_above zero j a low high = rw zero-add (grind (arith, nat_tests))
zeros_above (suc m) j a low high =
    let e = zeros_above m j a low high in
    let p : 2 ^ suc j ≤ 2 ^ (m + suc j) = pow_mono (omega arith) in
    rw suc-add (grind (arith, nat_tests))

pub leading_zeros_is : (k a : ℕ) → a < 2 ^ k → count_leading_zeros k a ≡ leading_zeros_of k a
unfolding count_leading_zeros
leading_zeros_is zero zero h = sym (zeros_of_zero zero)
leading_zeros_is (suc k) zero h = sym (zeros_of_zero (suc k))
leading_zeros_is k (suc a) h =
    let t = leading_top k (suc a) (omega arith) h in
    let c = count_leading_zeros k (suc a) in
    sym (subst (λ (n : ℕ). leading_zeros_of n (suc a) ≡ c) t.1 (zeros_above c t.0 (suc a) t.2 t.3))

-- ---- trailing zeros

trailing_step : (k a : ℕ) → trailing_zeros_of (suc k) a ≡ under (a % 2) (trailing_zeros_of k (a / 2))
unfolding trailing_zeros_of
trailing_step k a = cases (a % 2)
  where
    cases : (d : ℕ) → cond (eqb d 0) (suc (trailing_zeros_of k (a / 2))) 0 ≡ under d (trailing_zeros_of k (a / 2))
    cases zero = refl
    cases (suc d) = grind (arith, nat_tests)

pub trailing_zeros_is : (k a : ℕ) → count_trailing_zeros k a ≡ trailing_zeros_of k a
unfolding count_trailing_zeros trailing_zeros_of
trailing_zeros_is zero a = refl
trailing_zeros_is (suc k) a = ap (under (a % 2)) (trailing_zeros_is k (a / 2)) ∙ sym (trailing_step k a)

-- ---- set bits

ones_digit : (d : ℕ) → d < 2 → ones d ≡ d
unfolding ones ones_in
ones_digit zero h = refl
ones_digit (suc zero) h = refl
ones_digit (suc (suc d)) h = absurd (omega arith)

ones_step : (a : ℕ) → ones a ≡ a % 2 + ones (a / 2)
ones_step a =
    let low : a % 2 < 2 = omega arith in
    let e : ones (a / 2 * 2 ^ 1 + a % 2) ≡ ones (a / 2) + ones (a % 2) = ones_cat 1 (a / 2) (a % 2) low in
    let same : a / 2 * 2 + a % 2 ≡ a = div-add-mod' a 2 in
    let d = ones_digit (a % 2) low in
    let whole : ones a ≡ ones (a / 2) + ones (a % 2) = rw same at e in
    omega arith

pub set_bits_is : (k a : ℕ) → a < 2 ^ k → ones a ≡ set_bits_of k a
unfolding set_bits_of
set_bits_is zero zero h = ones_digit zero (omega arith)
set_bits_is zero (suc a) h = absurd (omega arith)
set_bits_is (suc k) a h = ones_step a ∙ ap (λ (x : ℕ). a % 2 + x) (set_bits_is k (a / 2) (omega (arith, pow-suc)))

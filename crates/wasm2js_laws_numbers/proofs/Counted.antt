-- Counts of bits.
use Rattle.std.proofs.Common.{◌≡◌, ℕ, zero, suc, ◌+◌, ◌-◌, ◌*◌, ◌/◌, ◌%◌, ◌^◌, ◌<◌, ◌≤◌, Bool, true, false, refl, ap, ◌∙◌, arith}
use Rattle.std.specs.Prelude.{if◌then◌else◌, ◌==◌, nat_lt, bit_and}
use Rattle.std.proofs.lemmas.Bool.Decides.{nat_tests}
use Rattle.std.proofs.lemmas.Nat.{pow_pos, pow-add, and-not, and_block}
use Rattle.std.proofs.Math.Nat.{zero-add, suc-add, pow-suc, mul_comm, mul_assoc}
use Rattle.std.proofs.Math.Pow.{pow_mono}
use Rattle.std.specs.Int.Bits.{and_self}
use Rattle.sem_words.specs.Words.{sub_of, leading_zeros_of, trailing_zeros_of, set_bits_of}
use Rattle.wasm2js_laws_numbers.specs.Laws.{joined, flipped, low_ones, LeadingZeros, TrailingZeros, SetBits, NarrowTrailingZeros}

-- ---- leading zeros

zeros_above : (m k a : ℕ) → a < 2 ^ k → leading_zeros_of (m + k) a ≡ m + leading_zeros_of k a
unfolding leading_zeros_of
zeros_above zero k a h = rw (zero-add, zero-add) refl
zeros_above (suc m) k a h =
    let e = zeros_above m k a h in
    let p : 2 ^ k ≤ 2 ^ (m + k) = pow_mono (omega arith) in
    rw (suc-add, suc-add) (grind (arith, nat_tests))

zeros_high : (k a x : ℕ) → a < 2 ^ 32 → 0 < x → x < 2 ^ k → leading_zeros_of (k + 32) (joined a x) ≡ leading_zeros_of k x
unfolding leading_zeros_of
zeros_high zero a x h some few = absurd (omega arith)
zeros_high (suc k) a x h some few = rw suc-add (by (nat_lt x (2 ^ k)) refl (zeros_high k a x h some))
  where
    power : 2 ^ (k + 32) ≡ 2 ^ 32 * 2 ^ k
    power = pow-add 2 k 32 ∙ mul_comm (2 ^ k) (2 ^ 32)

    below : nat_lt x (2 ^ k) ≡ nat_lt (joined a x) (2 ^ (k + 32))
    below = rw power (grind (arith, nat_tests))

    by : (b : Bool) → nat_lt x (2 ^ k) ≡ b → (x < 2 ^ k → leading_zeros_of (k + 32) (joined a x) ≡ leading_zeros_of k x) → (if nat_lt (joined a x) (2 ^ (k + 32)) then suc (leading_zeros_of (k + 32) (joined a x)) else 0) ≡ (if nat_lt x (2 ^ k) then suc (leading_zeros_of k x) else 0)
    by true is again = let small : x < 2 ^ k = grind (arith, nat_tests) in let e = again small in rw (← below) (rw is (ap suc e))
    by false is again = rw (← below) (rw is refl)

pub leading_zeros : LeadingZeros
leading_zeros a zero h s = let e : joined a 0 ≡ a = omega arith in ap (leading_zeros_of 64) e ∙ zeros_above 32 32 a h
leading_zeros a (suc x) h s = let test : (suc x == 0) ≡ false = grind (arith, nat_tests) in rw test (zeros_high 32 a (suc x) h (omega arith) s)

-- ---- trailing zeros

trailing_low : (k j a x : ℕ) → 0 < a → a < 2 ^ k → trailing_zeros_of (k + j) (a + 2 ^ k * x) ≡ trailing_zeros_of k a
unfolding trailing_zeros_of
trailing_low zero j a x some few = absurd (omega arith)
trailing_low (suc k) j a x some few = rw suc-add (by (a % 2) refl (trailing_low k j (a / 2) x))
  where
    power : 2 ^ suc k ≡ 2 * 2 ^ k
    power = pow-suc 2 k ∙ mul_comm (2 ^ k) 2

    split : a + 2 ^ suc k * x ≡ a + 2 * (2 ^ k * x)
    split = ap (λ (p : ℕ). a + p * x) power ∙ ap (λ (y : ℕ). a + y) (mul_assoc 2 (2 ^ k) x)

    rest : (a + 2 ^ suc k * x) % 2 ≡ a % 2
    rest = rw split (omega arith)

    half : (a + 2 ^ suc k * x) / 2 ≡ a / 2 + 2 ^ k * x
    half = rw split (omega arith)

    by : (b : ℕ) → a % 2 ≡ b → (0 < a / 2 → a / 2 < 2 ^ k → trailing_zeros_of (k + j) (a / 2 + 2 ^ k * x) ≡ trailing_zeros_of k (a / 2)) → (if (a + 2 ^ suc k * x) % 2 == 0 then suc (trailing_zeros_of (k + j) ((a + 2 ^ suc k * x) / 2)) else 0) ≡ (if a % 2 == 0 then suc (trailing_zeros_of k (a / 2)) else 0)
    by zero is again = let e = again (omega arith) (omega (arith, power)) in rw (rest, half, is) (ap suc e)
    by (suc b) is again = let odd : (suc b == 0) ≡ false = grind (arith, nat_tests) in rw (rest, is) (rw odd refl)

trailing_none : (k j x : ℕ) → trailing_zeros_of (k + j) (2 ^ k * x) ≡ k + trailing_zeros_of j x
unfolding trailing_zeros_of
trailing_none zero j x = let e : 1 * x ≡ x = omega arith in rw (zero-add, zero-add, e) refl
trailing_none (suc k) j x =
    let power : 2 ^ suc k ≡ 2 * 2 ^ k = pow-suc 2 k ∙ mul_comm (2 ^ k) 2 in
    let split : 2 ^ suc k * x ≡ 2 * (2 ^ k * x) = ap (λ (p : ℕ). p * x) power ∙ mul_assoc 2 (2 ^ k) x in
    let rest : 2 ^ suc k * x % 2 ≡ 0 = rw split (omega arith) in
    let half : 2 ^ suc k * x / 2 ≡ 2 ^ k * x = rw split (omega arith) in
    let e = trailing_none k j x in
    rw (suc-add, suc-add) (rw (rest, half) (ap suc e))

pub trailing_zeros : TrailingZeros
trailing_zeros zero x h s = ap (trailing_zeros_of 64) (omega arith) ∙ trailing_none 32 32 x
trailing_zeros (suc a) x h s = let test : (suc a == 0) ≡ false = grind (arith, nat_tests) in rw test (trailing_low 32 32 (suc a) x (omega arith) h)

-- ---- set bits

none_set : (k : ℕ) → set_bits_of k 0 ≡ 0
unfolding set_bits_of
none_set zero = refl
none_set (suc k) = let e = none_set k in omega arith

bits_split : (k j a x : ℕ) → a < 2 ^ k → set_bits_of (k + j) (a + 2 ^ k * x) ≡ set_bits_of k a + set_bits_of j x
unfolding set_bits_of
bits_split zero j a x h = let e : a + 1 * x ≡ x = omega arith in rw (zero-add, e) (omega arith)
bits_split (suc k) j a x h =
    let power : 2 ^ suc k ≡ 2 * 2 ^ k = pow-suc 2 k ∙ mul_comm (2 ^ k) 2 in
    let split : a + 2 ^ suc k * x ≡ a + 2 * (2 ^ k * x) = ap (λ (p : ℕ). a + p * x) power ∙ ap (λ (y : ℕ). a + y) (mul_assoc 2 (2 ^ k) x) in
    let rest : (a + 2 ^ suc k * x) % 2 ≡ a % 2 = rw split (omega arith) in
    let half : (a + 2 ^ suc k * x) / 2 ≡ a / 2 + 2 ^ k * x = rw split (omega arith) in
    let e = bits_split k j (a / 2) x (omega arith) in
    rw suc-add (rw (rest, half) (omega arith))

pub set_bits : SetBits
set_bits a x h = bits_split 32 32 a x h

-- a loop that takes the lowest bit away
pub set_bits_step : (k a : ℕ) → set_bits_of (suc k) a ≡ a % 2 + set_bits_of k (a / 2)
unfolding set_bits_of
set_bits_step k a = refl

-- ---- trailing zeros by the bits below the lowest that is set

-- so many low bits
ones_leading : (k t : ℕ) → t ≤ k → leading_zeros_of k (2 ^ t - 1) + t ≡ k
unfolding leading_zeros_of
ones_leading zero zero h = refl
ones_leading zero (suc t) h = absurd (omega arith)
ones_leading (suc k) t h = by (nat_lt k t) refl (ones_leading k t)
  where
    positive : 0 < 2 ^ t
    positive = pow_pos t

    by : (b : Bool) → nat_lt k t ≡ b → (t ≤ k → leading_zeros_of k (2 ^ t - 1) + t ≡ k) → (if nat_lt (2 ^ t - 1) (2 ^ k) then suc (leading_zeros_of k (2 ^ t - 1)) else 0) + t ≡ suc k
    by true is again =
        let all : suc k ≤ t = grind (arith, nat_tests) in
        let p : 2 ^ suc k ≤ 2 ^ t = pow_mono all in
        let power : 2 ^ suc k ≡ 2 ^ k * 2 = pow-suc 2 k in
        let q = pow_pos k in
        let test : nat_lt (2 ^ t - 1) (2 ^ k) ≡ false = grind (arith, nat_tests) in
        rw test (omega arith)
    by false is again =
        let less : t ≤ k = grind (arith, nat_tests) in
        let p : 2 ^ t ≤ 2 ^ k = pow_mono less in
        let some : 0 < 2 ^ t = pow_pos t in
        let test : nat_lt (2 ^ t - 1) (2 ^ k) ≡ true = grind (arith, nat_tests) in
        let e = again less in
        rw test (omega arith)

no_common : (k b : ℕ) → b < 2 ^ k → bit_and (2 ^ k - 1 - b) b ≡ 0
no_common k b h = let e = and-not k b b h h in let s : bit_and b b ≡ b = and_self b in omega arith

trailing_most : (k a : ℕ) → trailing_zeros_of k a ≤ k
unfolding trailing_zeros_of
trailing_most zero a = omega arith
trailing_most (suc k) a = by (a % 2 == 0) (trailing_most k (a / 2))
  where
    by : (b : Bool) → trailing_zeros_of k (a / 2) ≤ k → (if b then suc (trailing_zeros_of k (a / 2)) else 0) ≤ suc k
    by true e = omega arith
    by false e = omega arith

-- all bits turned, and the bits of the number before it
ones_below : (k a : ℕ) → 0 < a → a < 2 ^ k → bit_and (2 ^ k - 1 - a) (a - 1) ≡ 2 ^ trailing_zeros_of k a - 1
unfolding trailing_zeros_of
ones_below zero a some few = absurd (omega arith)
ones_below (suc k) a some few = by (a % 2) refl (ones_below k (a / 2))
  where
    power : 2 ^ suc k ≡ 2 ^ k * 2
    power = pow-suc 2 k

    by : (r : ℕ) → a % 2 ≡ r → (0 < a / 2 → a / 2 < 2 ^ k → bit_and (2 ^ k - 1 - a / 2) (a / 2 - 1) ≡ 2 ^ trailing_zeros_of k (a / 2) - 1) → bit_and (2 ^ suc k - 1 - a) (a - 1) ≡ 2 ^ (if a % 2 == 0 then suc (trailing_zeros_of k (a / 2)) else 0) - 1
    by zero is again =
        let few_half : a / 2 < 2 ^ k = omega (arith, power) in
        let some_half : 0 < a / 2 = omega arith in
        let e = again some_half few_half in
        let left : 2 ^ suc k - 1 - a ≡ (2 ^ k - 1 - a / 2) * 2 ^ 1 + 1 = omega (arith, power) in
        let right : a - 1 ≡ (a / 2 - 1) * 2 ^ 1 + 1 = omega arith in
        let both = and_block 1 (2 ^ k - 1 - a / 2) (a / 2 - 1) 1 1 (omega arith) (omega arith) in
        let test : (a % 2 == 0) ≡ true = grind (arith, nat_tests) in
        let twice : 2 ^ suc (trailing_zeros_of k (a / 2)) ≡ 2 ^ trailing_zeros_of k (a / 2) * 2 = pow-suc 2 (trailing_zeros_of k (a / 2)) in
        let positive = pow_pos (trailing_zeros_of k (a / 2)) in
        rw test (ap (λ (l : ℕ). bit_and l (a - 1)) left ∙ ap (bit_and ((2 ^ k - 1 - a / 2) * 2 ^ 1 + 1)) right ∙ both ∙ omega arith)
    by (suc r) is again =
        let odd : a % 2 ≡ 1 = omega arith in
        let few_half : a / 2 < 2 ^ k = omega (arith, power) in
        let none = no_common k (a / 2) few_half in
        let left : 2 ^ suc k - 1 - a ≡ (2 ^ k - 1 - a / 2) * 2 ^ 1 + 0 = omega (arith, power) in
        let right : a - 1 ≡ a / 2 * 2 ^ 1 + 0 = omega arith in
        let both = and_block 1 (2 ^ k - 1 - a / 2) (a / 2) 0 0 (omega arith) (omega arith) in
        let test : (a % 2 == 0) ≡ false = grind (arith, nat_tests) in
        rw test (ap (λ (l : ℕ). bit_and l (a - 1)) left ∙ ap (bit_and ((2 ^ k - 1 - a / 2) * 2 ^ 1 + 0)) right ∙ both ∙ omega arith)

ones_none : leading_zeros_of 32 (low_ones 0) ≡ 0
unfolding leading_zeros_of
ones_none = refl

none_32 : 0 + trailing_zeros_of 32 0 ≡ 32
unfolding trailing_zeros_of
none_32 = refl

pub narrow_trailing_zeros : NarrowTrailingZeros
narrow_trailing_zeros zero h = ap (λ (n : ℕ). n + trailing_zeros_of 32 0) (ones_none) ∙ none_32
narrow_trailing_zeros (suc a) h =
    let before : sub_of 32 (suc a) 1 ≡ suc a - 1 = omega arith in
    let ones = ones_below 32 (suc a) (omega arith) h in
    let most = trailing_most 32 (suc a) in
    let count = ones_leading 32 (trailing_zeros_of 32 (suc a)) most in
    let all : low_ones (suc a) ≡ 2 ^ trailing_zeros_of 32 (suc a) - 1 = ap (bit_and (flipped (suc a))) before ∙ ones in
    rw all (omega arith)

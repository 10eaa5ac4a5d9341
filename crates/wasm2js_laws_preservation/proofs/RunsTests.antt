-- Comparisons of small words.
use Rattle.std.proofs.Common.{◌≡◌, ℕ, ◌+◌, ◌-◌, ◌%◌, ◌^◌, ◌<◌, ◌≤◌, Bool, true, false, ◌&&◌, refl, sym, ap, ◌∙◌, arith}
use Rattle.std.specs.Prelude.{if◌then◌else◌, nat_lt, nat_le, ◌==◌, bit_and, bit_or, bit_xor}
use Rattle.std.specs.Int.Bits.{xor_assoc, xor_self, xor_zero_l, xor_zero_r, or_zero_r}
use Rattle.std.proofs.lemmas.Bool.Decides.{nat_tests}
use Rattle.std.proofs.lemmas.Int.{ints}
use Rattle.std.proofs.lemmas.Nat.{and_mask, xor_mod, le_or_l, le_or_r}
use Rattle.sem_words.specs.Words.{sub_of, rel_of}
use Rattle.sem_words.specs.declared.word.Rel.TheVariants.{Ne, LtS, LeS, GtS, GtU}
use Rattle.wasm2js_laws_places.specs.Straight.{truth}
use Rattle.wasm2js_laws_preservation.specs.RunsAnswers.{is_aligned, are_alike}

pub is_less : (y n : ℕ) → y < n → n < 2 ^ 31 → rel_of 32 LtS y n ≡ true
is_less y n h k = grind (arith, ints, nat_tests)

pub not_less : (y n : ℕ) → y ≡ n → n < 2 ^ 31 → rel_of 32 LtS y n ≡ false
not_less y n h k = grind (arith, ints, nat_tests)

pub fits : (a b : ℕ) → nat_le a b ≡ true → a ≤ b
fits a b e = grind (arith, nat_tests, e)

pub is_past : (a b : ℕ) → nat_le a b ≡ false → b < a
is_past a b e = grind (arith, nat_tests, e)

-- so many bytes are left, or fewer, where y of n are done

pub more_left : (y n size : ℕ) → y + size ≤ n → n < 2 ^ 31 → rel_of 32 LeS y (sub_of 32 n size) ≡ true
more_left y n size h k = let e : sub_of 32 n size ≡ n - size = omega (arith, h, k) in ap (rel_of 32 LeS y) e ∙ grind (arith, ints, nat_tests)

pub fewer_left : (y n size : ℕ) → n < y + size → y ≤ n → n < 2 ^ 31 → size ≤ 32 → rel_of 32 LeS y (sub_of 32 n size) ≡ false
fewer_left y n size h l k few = grind (arith, ints, nat_tests)

-- more than so many are left, or no more

pub is_more : (n most : ℕ) → most < n → n < 2 ^ 31 → rel_of 32 GtS n most ≡ true
is_more n most h k = grind (arith, ints, nat_tests)

pub not_more : (n most : ℕ) → n ≤ most → most < 2 ^ 31 → rel_of 32 GtS n most ≡ false
not_more n most h k = grind (arith, ints, nat_tests)

-- ---- places that are multiples of four

or_nothing : (a b : ℕ) → bit_or a b ≡ 0 → a ≡ 0
or_nothing a b e = let le = le_or_l a b in omega (arith, le, e)

nothing_or : (a b : ℕ) → bit_or a b ≡ 0 → b ≡ 0
nothing_or a b e = let le = le_or_r a b in omega (arith, le, e)

low_bits : (a : ℕ) → bit_and a 3 ≡ a % 4
low_bits a = and_mask a 2

pub is_inside : (a : ℕ) → (a % 4 ≡ 0 → ⊥) → rel_of 32 Ne (bit_and a 3) 0 ≡ true
is_inside a h = let low = low_bits a in grind (arith, nat_tests, low, h)

pub not_inside : (a : ℕ) → a % 4 ≡ 0 → rel_of 32 Ne (bit_and a 3) 0 ≡ false
not_inside a h = let low = low_bits a in grind (arith, nat_tests, low, h)

same_number : (a b : ℕ) → bit_xor a b ≡ 0 → a ≡ b
same_number a b e = sym (ap (bit_xor a) e ∙ xor_zero_r a) ∙ sym (xor_assoc a a b) ∙ ap (λ x. bit_xor x b) (xor_self a) ∙ xor_zero_l b

same_rest : (a b : ℕ) → (bit_and (bit_xor a b) 3 == 0) ≡ true → a % 4 ≡ b % 4
same_rest a b e =
    let low = low_bits (bit_xor a b) in
    let none : bit_xor a b % 4 ≡ 0 = grind (arith, nat_tests, low, e) in
    same_number (a % 4) (b % 4) (sym (xor_mod a b 2) ∙ none)

-- ---- tests of words

is_four : (len : ℕ) → len < 2 ^ 31 → truth (rel_of 32 LtS len 4) ≡ (if nat_le 4 len then 0 else 1)
is_four len k = by (nat_le 4 len) refl
  where
    by : (t : Bool) → nat_le 4 len ≡ t → truth (rel_of 32 LtS len 4) ≡ (if t then 0 else 1)
    by true e = let few : rel_of 32 LtS len 4 ≡ false = grind (arith, ints, nat_tests, e) in ap truth few
    by false e = let few : rel_of 32 LtS len 4 ≡ true = grind (arith, ints, nat_tests, e) in ap truth few

-- of a fill by words
pub words_fit : (len : ℕ) → len < 2 ^ 31 → rel_of 32 GtS len 3 ≡ nat_le 4 len
words_fit len k = grind (arith, ints, nat_tests)

or_is : (a : ℕ) (t : Bool) → (bit_or a (if t then 0 else 1) == 0) ≡ ((a == 0) && t)
or_is a true = ap (λ n. n == 0) (or_zero_r a) ∙ by (a == 0)
  where
    by : (t : Bool) → t ≡ (t && true)
    by true = refl
    by false = refl
or_is a false = let le = le_or_r a 1 in let none : (bit_or a 1 == 0) ≡ false = grind (arith, nat_tests, le) in none ∙ by (a == 0)
  where
    by : (t : Bool) → false ≡ (t && false)
    by true = refl
    by false = refl

both_hold : (s t : Bool) → (s && t) ≡ true → (s ≡ true) × (t ≡ true)
both_hold true true e = (refl, refl)
both_hold true false e = absurd (cc e)
both_hold false t e = absurd (cc e)

pub alike_places : (to from len : ℕ) → are_alike to from len ≡ true → (to % 4 ≡ from % 4) × (4 ≤ len)
alike_places to from len e =
    let parts = both_hold (is_aligned (bit_xor to from)) (nat_le 4 len) e in
    (same_rest to from parts.0, fits 4 len parts.1)

pub words_test : (to from len : ℕ) → len < 2 ^ 31 → (bit_or (bit_and (bit_xor to from) 3) (truth (rel_of 32 LtS len 4)) == 0) ≡ are_alike to from len
words_test to from len k = ap (λ n. bit_or (bit_and (bit_xor to from) 3) n == 0) (is_four len k) ∙ or_is (bit_and (bit_xor to from) 3) (nat_le 4 len)

-- ---- runs in a memory of so many bytes

pub run_within : (bytes at len : ℕ) → bytes ≤ 2 ^ 28 → at + len ≤ bytes → (nat_lt bytes len ≡ false) × (rel_of 32 GtU at (sub_of 32 (bytes % 2 ^ 32) len) ≡ false)
run_within bytes at len small h =
    let few : len ≤ bytes = omega (arith, h) in
    let left : sub_of 32 (bytes % 2 ^ 32) len ≡ bytes - len = omega (arith, small, few) in
    let below : at ≤ bytes - len = omega (arith, h) in
    (grind (arith, nat_tests, few), ap (rel_of 32 GtU at) left ∙ not_above at (bytes - len) below)
  where
    not_above : (a b : ℕ) → a ≤ b → nat_lt b a ≡ false
    not_above a b le = grind (arith, nat_tests, le)

pub run_fits : (bytes at len : ℕ) → bytes ≤ 2 ^ 28 → nat_lt bytes len ≡ false → rel_of 32 GtU at (sub_of 32 (bytes % 2 ^ 32) len) ≡ false → at + len ≤ bytes
run_fits bytes at len small e f =
    let few : len ≤ bytes = grind (arith, nat_tests, e) in
    let left : sub_of 32 (bytes % 2 ^ 32) len ≡ bytes - len = omega (arith, small, few) in
    let below = at_most at (bytes - len) (sym (ap (rel_of 32 GtU at) left) ∙ f) in
    omega (arith, below, few)
  where
    at_most : (a b : ℕ) → nat_lt b a ≡ false → a ≤ b
    at_most a b e = grind (arith, nat_tests, e)

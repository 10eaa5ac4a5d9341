-- Operators that go bit by bit, and extensions with the sign.
use Rattle.std.proofs.Common.{◌≡◌, ℕ, ◌+◌, ◌-◌, ◌*◌, ◌/◌, ◌%◌, ◌^◌, ◌<◌, ◌≤◌, Bool, true, false, refl, sym, ap, ◌∙◌, arith}
use Rattle.std.specs.Prelude.{if◌then◌else◌, nat_lt, bit_and, bit_or, bit_xor}
use Rattle.std.proofs.lemmas.Bool.Decides.{nat_tests}
use Rattle.std.proofs.lemmas.Int.{ints}
use Rattle.std.proofs.lemmas.Nat.{and_block, or_block, xor_block}
use Rattle.sem_words.specs.Words.{word_of, signed_of}
use Rattle.wasm2js_laws_numbers.specs.Laws.{joined, flipped, BitsAreApart, extended, with_sign, NarrowExtensions, WideExtensions}
use Rattle.wasm2js_laws_numbers.proofs.Signed.{low_shifted, high_shifted}

-- ---- bit by bit

block : (a x : ℕ) → joined a x ≡ x * 2 ^ 32 + a
block a x = omega arith

back : (a x : ℕ) → x * 2 ^ 32 + a ≡ joined a x
back a x = omega arith

pub conjunctions : BitsAreApart bit_and
conjunctions a x b y p q = ap (λ m. bit_and m (joined b y)) (block a x) ∙ ap (bit_and (x * 2 ^ 32 + a)) (block b y) ∙ and_block 32 x y a b p q ∙ back (bit_and a b) (bit_and x y)

pub disjunctions : BitsAreApart bit_or
disjunctions a x b y p q = ap (λ m. bit_or m (joined b y)) (block a x) ∙ ap (bit_or (x * 2 ^ 32 + a)) (block b y) ∙ or_block 32 x y a b p q ∙ back (bit_or a b) (bit_or x y)

pub exclusions : BitsAreApart bit_xor
exclusions a x b y p q = ap (λ m. bit_xor m (joined b y)) (block a x) ∙ ap (bit_xor (x * 2 ^ 32 + a)) (block b y) ∙ xor_block 32 x y a b p q ∙ back (bit_xor a b) (bit_xor x y)

-- ---- the sign

-- the high word of a number's extension
sign_low : (a : ℕ) → a < 2 ^ 31 → with_sign a ≡ a
sign_low a h = let e = low_shifted a 31 h in let none : a / 2 ^ 31 ≡ 0 = omega arith in omega arith

sign_high : (a : ℕ) → 2 ^ 31 ≤ a → a < 2 ^ 32 → with_sign a ≡ 2 ^ 64 - 2 ^ 32 + a
sign_high a h k = let e = high_shifted a 31 h k in let none : flipped (flipped a / 2 ^ 31) ≡ 2 ^ 32 - 1 = omega arith in omega arith

-- the word of the signed reading of so many bits
module _ (a : ℕ) (small : a < 2 ^ 32) where
  extended_8 : extended 8 a ≡ (if nat_lt (a % 2 ^ 8) (2 ^ 7) then a % 2 ^ 8 else 2 ^ 32 - 2 ^ 8 + a % 2 ^ 8)
  extended_8 = by (nat_lt (a % 2 ^ 8) (2 ^ 7)) refl
    where
      by : (t : Bool) → nat_lt (a % 2 ^ 8) (2 ^ 7) ≡ t → extended 8 a ≡ (if t then a % 2 ^ 8 else 2 ^ 32 - 2 ^ 8 + a % 2 ^ 8)
      by true is = let few : a % 2 ^ 8 < 2 ^ 7 = grind (arith, nat_tests) in let low : a * 2 ^ 24 % 2 ^ 32 < 2 ^ 31 = omega arith in low_shifted (a * 2 ^ 24 % 2 ^ 32) 24 low ∙ omega arith
      by false is =
          let many : 2 ^ 7 ≤ a % 2 ^ 8 = grind (arith, nat_tests) in
          let high : 2 ^ 31 ≤ a * 2 ^ 24 % 2 ^ 32 = omega arith in
          let below : a * 2 ^ 24 % 2 ^ 32 < 2 ^ 32 = omega arith in
          high_shifted (a * 2 ^ 24 % 2 ^ 32) 24 high below ∙ omega arith

  extended_16 : extended 16 a ≡ (if nat_lt (a % 2 ^ 16) (2 ^ 15) then a % 2 ^ 16 else 2 ^ 32 - 2 ^ 16 + a % 2 ^ 16)
  extended_16 = by (nat_lt (a % 2 ^ 16) (2 ^ 15)) refl
    where
      by : (t : Bool) → nat_lt (a % 2 ^ 16) (2 ^ 15) ≡ t → extended 16 a ≡ (if t then a % 2 ^ 16 else 2 ^ 32 - 2 ^ 16 + a % 2 ^ 16)
      by true is = let few : a % 2 ^ 16 < 2 ^ 15 = grind (arith, nat_tests) in let low : a * 2 ^ 16 % 2 ^ 32 < 2 ^ 31 = omega arith in low_shifted (a * 2 ^ 16 % 2 ^ 32) 16 low ∙ omega arith
      by false is =
          let many : 2 ^ 15 ≤ a % 2 ^ 16 = grind (arith, nat_tests) in
          let high : 2 ^ 31 ≤ a * 2 ^ 16 % 2 ^ 32 = omega arith in
          let below : a * 2 ^ 16 % 2 ^ 32 < 2 ^ 32 = omega arith in
          high_shifted (a * 2 ^ 16 % 2 ^ 32) 16 high below ∙ omega arith

-- what the definition gives of r, the low bits

word_8 : (r : ℕ) → r < 2 ^ 8 → word_of 32 (signed_of 8 r) ≡ (if nat_lt r (2 ^ 7) then r else 2 ^ 32 - 2 ^ 8 + r)
word_8 r h = grind (arith, ints, nat_tests)

word_16 : (r : ℕ) → r < 2 ^ 16 → word_of 32 (signed_of 16 r) ≡ (if nat_lt r (2 ^ 15) then r else 2 ^ 32 - 2 ^ 16 + r)
word_16 r h = grind (arith, ints, nat_tests)

wide_8 : (r : ℕ) → r < 2 ^ 8 → word_of 64 (signed_of 8 r) ≡ (if nat_lt r (2 ^ 7) then r else 2 ^ 64 - 2 ^ 8 + r)
wide_8 r h = grind (arith, ints, nat_tests)

wide_16 : (r : ℕ) → r < 2 ^ 16 → word_of 64 (signed_of 16 r) ≡ (if nat_lt r (2 ^ 15) then r else 2 ^ 64 - 2 ^ 16 + r)
wide_16 r h = grind (arith, ints, nat_tests)

wide_32 : (r : ℕ) → r < 2 ^ 32 → word_of 64 (signed_of 32 r) ≡ (if nat_lt r (2 ^ 31) then r else 2 ^ 64 - 2 ^ 32 + r)
wide_32 r h = grind (arith, ints, nat_tests)

pub narrow_extensions : NarrowExtensions
narrow_extensions a h =
    let r : a % 2 ^ 8 < 2 ^ 8 = omega arith in
    let s : a % 2 ^ 16 < 2 ^ 16 = omega arith in
    (word_8 (a % 2 ^ 8) r ∙ sym (extended_8 a h), word_16 (a % 2 ^ 16) s ∙ sym (extended_16 a h))

-- a word whose sign is told, extended
signed_word : (r more : ℕ) → r < 2 ^ 31 → more < 2 ^ 31 → 2 ^ 31 ≤ 2 ^ 32 - more + r → r < more → (b : Bool)
    → (if b then r else 2 ^ 64 - more + r) ≡ with_sign (if b then r else 2 ^ 32 - more + r)
signed_word r more h k l f true = sym (sign_low r h)
signed_word r more h k l f false = let below : 2 ^ 32 - more + r < 2 ^ 32 = omega arith in let e = sign_high (2 ^ 32 - more + r) l below in omega arith

sign_word : (a : ℕ) → a < 2 ^ 32 → (if nat_lt a (2 ^ 31) then a else 2 ^ 64 - 2 ^ 32 + a) ≡ with_sign a
sign_word a h = by (nat_lt a (2 ^ 31)) refl
  where
    by : (b : Bool) → nat_lt a (2 ^ 31) ≡ b → (if b then a else 2 ^ 64 - 2 ^ 32 + a) ≡ with_sign a
    by true is = sym (sign_low a (grind (arith, nat_tests)))
    by false is = sym (sign_high a (grind (arith, nat_tests)) h)

pub wide_extensions : WideExtensions
wide_extensions a x h k =
    let r : a % 2 ^ 8 < 2 ^ 8 = omega arith in
    let s : a % 2 ^ 16 < 2 ^ 16 = omega arith in
    let low_8 : joined a x % 2 ^ 8 ≡ a % 2 ^ 8 = omega arith in
    let low_16 : joined a x % 2 ^ 16 ≡ a % 2 ^ 16 = omega arith in
    let low_32 : joined a x % 2 ^ 32 ≡ a = omega arith in (
      ap (λ m. word_of 64 (signed_of 8 m)) low_8 ∙ wide_8 (a % 2 ^ 8) r ∙ signed_word (a % 2 ^ 8) (2 ^ 8) (omega arith) (omega arith) (omega arith) r (nat_lt (a % 2 ^ 8) (2 ^ 7)) ∙ ap with_sign (sym (extended_8 a h)),
      ap (λ m. word_of 64 (signed_of 16 m)) low_16 ∙ wide_16 (a % 2 ^ 16) s ∙ signed_word (a % 2 ^ 16) (2 ^ 16) (omega arith) (omega arith) (omega arith) s (nat_lt (a % 2 ^ 16) (2 ^ 15)) ∙ ap with_sign (sym (extended_16 a h)),
      ap (λ m. word_of 64 (signed_of 32 m)) low_32 ∙ wide_32 a h ∙ sign_word a h,
    )

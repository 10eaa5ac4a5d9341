-- Numbers that are literals, and what operands there is room for.
use Rattle.std.proofs.Common.{◌≡◌, ℕ, ◌+◌, ◌^◌, ◌<◌, Bool, true, false, List, ◌∷◌, length, refl, arith}
use Rattle.std.specs.Prelude.{ℤ, pos, negsuc, is_some, nat_lt, FitsSigned}
use Rattle.std.specs.Int.{w32}
use Rattle.std.proofs.lemmas.Bool.Decides.{nat_tests}
use Rattle.std.proofs.lemmas.Int.{ints}
use Rattle.sem_words.specs.Words.{signed_of}
use Rattle.sem_words.proofs.WordLaws.{signed_of-fits_32}
use Rattle.session_lang.specs.Imports.{low_word, high_word}
use Rattle.asm_lang_valid.specs.Typing.{Scope, literal_type}
use Rattle.wasm_lang.specs.declared.types.ValType.{ValType}
use Rattle.wasm_lang.specs.declared.types.ValType.TheVariants.{I32, I64}
use Rattle.wasm_lang_valid.specs.Typing.{Context}
use Rattle.wasm2js_laws_terms.specs.Sound.{IsInt}
use Rattle.wasm2js_laws_scopes.specs.Provided.{HasRoom, AreInts}
use Rattle.wasm2js_translation.specs.Pairs.{operand_pair, names_of}
use Rattle.wasm2js_translation.specs.Rooms.{here}

-- ---- literals

pub plain_literal : (n : ℕ) → n < 2 ^ 32 → is_some (literal_type (pos n)) ≡ true
plain_literal n h = by (nat_lt n (2 ^ 31)) refl
  where
    wide : nat_lt n (2 ^ 32) ≡ true
    wide = grind (arith, nat_tests)

    by : (a : Bool) → nat_lt n (2 ^ 31) ≡ a → is_some (literal_type (pos n)) ≡ true
    by true e = rw e refl
    by false e = rw (e, wide) refl

fitting_literal : (z : ℤ) → FitsSigned w32 z → is_some (literal_type z) ≡ true
fitting_literal (pos n) h = plain_literal n (grind (arith, ints))
fitting_literal (negsuc n) h = let e : nat_lt n (2 ^ 31) ≡ true = grind (arith, ints, nat_tests) in rw e refl

pub signed_literal : (n : ℕ) → n < 2 ^ 32 → is_some (literal_type (signed_of 32 n)) ≡ true
signed_literal n h = fitting_literal (signed_of 32 n) (signed_of-fits_32 n h)

pub low_fits : (n : ℕ) → low_word n < 2 ^ 32
low_fits n = omega arith

pub high_fits : (n : ℕ) → n < 2 ^ 64 → high_word n < 2 ^ 32
high_fits n h = omega (arith, h)

-- ---- operands

module _ (s : Scope) (c : Context) (b : ℕ) where
  -- the topmost three
  pub first_low : (t : ValType) (below : List ValType) (xs : List ℕ) → HasRoom s c (here b (t ∷ below) xs) → IsInt s (operand_pair (b + length below)).low
  first_low t below xs h = h.operands (b + length below) (omega arith)

  pub second_low : (t u : ValType) (below : List ValType) (xs : List ℕ) → HasRoom s c (here b (t ∷ u ∷ below) xs) → IsInt s (operand_pair (b + length below)).low
  second_low t u below xs h = h.operands (b + length below) (omega arith)

  pub top_of_two : (t u : ValType) (below : List ValType) (xs : List ℕ) → HasRoom s c (here b (t ∷ u ∷ below) xs) → IsInt s (operand_pair (b + length below + 1)).low
  top_of_two t u below xs h = h.operands (b + length below + 1) (omega arith)

  pub third_low : (t u v : ValType) (below : List ValType) (xs : List ℕ) → HasRoom s c (here b (t ∷ u ∷ v ∷ below) xs) → IsInt s (operand_pair (b + length below)).low
  third_low t u v below xs h = h.operands (b + length below) (omega arith)

  pub middle_of_three : (t u v : ValType) (below : List ValType) (xs : List ℕ) → HasRoom s c (here b (t ∷ u ∷ v ∷ below) xs) → IsInt s (operand_pair (b + length below + 1)).low
  middle_of_three t u v below xs h = h.operands (b + length below + 1) (omega arith)

  pub top_of_three : (t u v : ValType) (below : List ValType) (xs : List ℕ) → HasRoom s c (here b (t ∷ u ∷ v ∷ below) xs) → IsInt s (operand_pair (b + length below + 2)).low
  top_of_three t u v below xs h = h.operands (b + length below + 2) (omega arith)

  -- high words
  pub first_high : (below : List ValType) (xs : List ℕ) → HasRoom s c (here b (I64 ∷ below) xs) → IsInt s (operand_pair (b + length below)).high
  first_high below xs h = h.high_words (b + length below) (omega arith)

  pub second_high : (u : ValType) (below : List ValType) (xs : List ℕ) → HasRoom s c (here b (I64 ∷ u ∷ below) xs) → IsInt s (operand_pair (b + length below)).high
  second_high u below xs h = h.high_words (b + length below) (omega arith)

  pub top_high_of_two : (u : ValType) (below : List ValType) (xs : List ℕ) → HasRoom s c (here b (I64 ∷ u ∷ below) xs) → IsInt s (operand_pair (b + length below + 1)).high
  top_high_of_two u below xs h = h.high_words (b + length below + 1) (omega arith)

  -- all words of the topmost operand
  pub first_words : (t : ValType) (below : List ValType) (xs : List ℕ) → HasRoom s c (here b (t ∷ below) xs) → AreInts s (names_of t (operand_pair (b + length below)))
  first_words I32 below xs h = (first_low I32 below xs h, tt)
  first_words I64 below xs h = (first_low I64 below xs h, (first_high below xs h, tt))

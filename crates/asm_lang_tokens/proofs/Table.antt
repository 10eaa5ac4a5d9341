-- What holds of each text of a table holds of a text that is in it.
use Rattle.std.proofs.Common.{◌≡◌, ℕ, ◌-◌, ◌<◌, Bool, true, false, ◌||◌, not, List, [], ◌∷◌, length, take, refl, ap, ◌∙◌, inl, inr, arith}
use Rattle.std.specs.Prelude.{bytes_eq, ◌==◌}
use Rattle.std.specs.List.{list_all, list_any}
use Rattle.std.proofs.lemmas.Bool.{and_parts, or_cases, eqb-true, eq-eqb, both_ways, false_from_ne_true, and_from}
use Rattle.asm_lang_tokens.specs.Bytes.{begins_name, is_digit, is_quote}
use Rattle.asm_lang_tokens.specs.Forms.{punctuators, is_punctuator}

same_bytes : (xs ys : List ℕ) → bytes_eq xs ys ≡ true → xs ≡ ys
same_bytes [] [] h = refl
same_bytes [] (y ∷ ys) h = absurd cc
same_bytes (x ∷ xs) [] h = absurd cc
same_bytes (x ∷ xs) (y ∷ ys) h = let parts = and_parts (x == y) (bytes_eq xs ys) h in let first = eqb-true x y parts.0 in let rest = same_bytes xs ys parts.1 in cc

bytes_eq-same : (xs : List ℕ) → bytes_eq xs xs ≡ true
bytes_eq-same [] = refl
bytes_eq-same (x ∷ xs) = and_from (x == x) (bytes_eq xs xs) (eq-eqb x x refl) (bytes_eq-same xs)

pub of_all : (P : List ℕ → Bool) (table : List (List ℕ)) (bs : List ℕ) → list_all P table ≡ true → list_any (bytes_eq bs) table ≡ true → P bs ≡ true
of_all P [] bs all is = absurd cc
of_all P (t ∷ table) bs all is =
    let parts = and_parts (P t) (list_all P table) all in
    elim (or_cases (bytes_eq bs t) (list_any (bytes_eq bs) table) is) [
      | inl here ↦ ap P (same_bytes bs t here) ∙ parts.0
      | inr there ↦ of_all P table bs parts.1 there
    ]

pub of_punctuators : (P : List ℕ → Bool) (bs : List ℕ) → list_all P punctuators ≡ true → is_punctuator bs ≡ true → P bs ≡ true
unfolding is_punctuator
of_punctuators P bs all is = of_all P punctuators bs all is

-- ---- how punctuators begin

-- no other token begins with this byte, but for a decimal that begins with a dot
begins_otherwise : List ℕ → Bool
begins_otherwise [] = false
begins_otherwise (b ∷ bs) = not ((begins_name b || is_digit b) || is_quote b)

abbrev pub begins_word : ℕ → Bool
begins_word b = (begins_name b || is_digit b) || is_quote b

pub no_word_is_punctuator : (b : ℕ) (bs : List ℕ) → begins_word b ≡ true → is_punctuator (b ∷ bs) ≡ false
unfolding begins_otherwise
no_word_is_punctuator b bs h = false_from_ne_true (is_punctuator (b ∷ bs)) (λ is. let other = of_punctuators begins_otherwise (b ∷ bs) refl is in absurd (both_ways (not (begins_word b)) (ap not h) other))

-- ---- fronts of punctuators are punctuators

-- whether the text is of one byte, or without its last byte a punctuator
front_is_one : List ℕ → Bool
front_is_one bs = (length bs == 1) || is_punctuator (take (length bs - 1) bs)

pub front_is_punctuator : (bs : List ℕ) → is_punctuator bs ≡ true → 1 < length bs → is_punctuator (take (length bs - 1) bs) ≡ true
unfolding front_is_one is_punctuator
front_is_punctuator bs is lt =
    elim (or_cases (length bs == 1) (is_punctuator (take (length bs - 1) bs)) (of_all front_is_one punctuators bs refl is)) [
      | inl one ↦ (let e = eqb-true (length bs) 1 one in absurd (omega arith))
      | inr h ↦ h
    ]

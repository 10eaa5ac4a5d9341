-- The bytes of a string, as they are written, are read again.
use Rattle.std.proofs.Common.{◌≡◌, ℕ, zero, suc, ◌+◌, ◌*◌, ◌/◌, ◌%◌, ◌<◌, Bool, true, false, ◌&&◌, not, cond, List, [], ◌∷◌, ◌++◌, Option, Some, None, is_none, refl, sym, ap, ◌∙◌, arith, append_assoc}
use Rattle.std.specs.Prelude.{◌==◌, if◌then◌else◌, option_map}
use Rattle.std.specs.List.{flat_map, AllByRecursion}
use Rattle.std.proofs.lemmas.Bool.{and_parts, false≢true, eqb-true, eqb-false}
use Rattle.wat_lang.specs.Tokens.{Piece, quote, character, no_piece, piece_of, escaped, escape_piece, byte_piece, brace_piece, is_string_byte, is_hexadecimal_digit, digit_value, string_from, put_value}
use Rattle.wat_lang.specs.Printing.{stands_as_it_is, byte_text, hexadecimal_digit}

-- ---- a test of each byte

all_below : ℕ → (ℕ → Bool) → Bool
all_below zero test = true
all_below (suc n) test = cond (test n) (all_below n test) false

at_below : (n : ℕ) (test : ℕ → Bool) → all_below n test ≡ true → (b : ℕ) → b < n → test b ≡ true
unfolding all_below
at_below zero test all b lt = absurd (omega arith)
at_below (suc n) test all b lt = by (at_below n test) (test n) (b == n) refl refl
  where
    by : (all_below n test ≡ true → (c : ℕ) → c < n → test c ≡ true) → (t u : Bool) → test n ≡ t → (b == n) ≡ u → test b ≡ true
    by below false u et eu = absurd (false≢true (rw et at all))
    by below true true et eu = ap test (eqb-true b n eu) ∙ et
    by below true false et eu = below (rw et at all) b (omega (arith, eqb-false b n eu))

abbrev high : ℕ → ℕ
high b = hexadecimal_digit (b / 16)

abbrev low : ℕ → ℕ
low b = hexadecimal_digit (b % 16)

abbrev plain_test : ℕ → Bool
plain_test b = if stands_as_it_is b then (not (b == 34) && not (b == 92)) && is_string_byte b else true

abbrev digits_test : ℕ → Bool
digits_test b = (is_none (escaped (high b)) && not (high b == 117)) && ((is_hexadecimal_digit (high b) && is_hexadecimal_digit (low b)) && ((16 * digit_value (high b) + digit_value (low b)) == b))

test_bytes : all_below 256 (λ b. plain_test b && digits_test b) ≡ true
unfolding all_below
test_bytes = refl

tested : (b : ℕ) → b < 256 → (plain_test b ≡ true) × (digits_test b ≡ true)
tested b lt = and_parts (plain_test b) (digits_test b) (at_below 256 (λ c. plain_test c && digits_test c) test_bytes b lt)

-- ---- a byte

not_so : (x : Bool) → not x ≡ true → x ≡ false
not_so true e = sym e
not_so false e = refl

no_value : (o : Option ℕ) → is_none o ≡ true → o ≡ None
no_value None e = refl
no_value (Some v) e = absurd (false≢true e)

-- ---- a choice whose test is known

pub first_is : {X : Type 0} (t : Bool) (x y : X) → t ≡ true → (if t then x else y) ≡ x
first_is true x y e = refl
first_is false x y e = absurd (false≢true e)

pub second_is : {X : Type 0} (t : Bool) (x y : X) → t ≡ false → (if t then x else y) ≡ y
second_is true x y e = absurd (false≢true (sym e))
second_is false x y e = refl

as_it_stands : (b : ℕ) (xs : List ℕ) → b < 256 → stands_as_it_is b ≡ true → piece_of (b ∷ xs) ≡ character (b ∷ []) 0
as_it_stands b xs lt is =
    let t : ((not (b == 34) && not (b == 92)) && is_string_byte b) ≡ true = sym (first_is (stands_as_it_is b) ((not (b == 34) && not (b == 92)) && is_string_byte b) true is) ∙ (tested b lt).0 in
    let parts = and_parts (not (b == 34) && not (b == 92)) (is_string_byte b) t in
    let signs = and_parts (not (b == 34)) (not (b == 92)) parts.0 in
    second_is (b == 34) quote _ (not_so (b == 34) signs.0)
    ∙ (second_is (b == 92) (escape_piece xs) _ (not_so (b == 92) signs.1) ∙ first_is (is_string_byte b) (character (b ∷ []) 0) no_piece parts.1)

abbrev after_escape : ℕ → List ℕ → Option ℕ → Piece
after_escape h bs o = elim o [ Some v ↦ character (v ∷ []) 1 | None ↦ if h == 117 then brace_piece bs else byte_piece (h ∷ bs) ]

two_digits : (h l : ℕ) (bs : List ℕ) → escaped h ≡ None → (h == 117) ≡ false → (is_hexadecimal_digit h && is_hexadecimal_digit l) ≡ true
    → piece_of (92 ∷ h ∷ l ∷ bs) ≡ character ((16 * digit_value h + digit_value l) ∷ []) 2
two_digits h l bs none other both =
    ap (after_escape h (l ∷ bs)) none
    ∙ (second_is (h == 117) (brace_piece (l ∷ bs)) (byte_piece (h ∷ l ∷ bs)) other
    ∙ first_is (is_hexadecimal_digit h && is_hexadecimal_digit l) (character ((16 * digit_value h + digit_value l) ∷ []) 2) no_piece both)

by_digits : (b : ℕ) (xs : List ℕ) → b < 256 → piece_of (92 ∷ high b ∷ low b ∷ xs) ≡ character (b ∷ []) 2
by_digits b xs lt =
    let t = (tested b lt).1 in
    let parts = and_parts (is_none (escaped (high b)) && not (high b == 117)) ((is_hexadecimal_digit (high b) && is_hexadecimal_digit (low b)) && ((16 * digit_value (high b) + digit_value (low b)) == b)) t in
    let front = and_parts (is_none (escaped (high b))) (not (high b == 117)) parts.0 in
    let back = and_parts (is_hexadecimal_digit (high b) && is_hexadecimal_digit (low b)) ((16 * digit_value (high b) + digit_value (low b)) == b) parts.1 in
    let value : 16 * digit_value (high b) + digit_value (low b) ≡ b = eqb-true (16 * digit_value (high b) + digit_value (low b)) b back.1 in
    two_digits (high b) (low b) xs (no_value (escaped (high b)) front.0) (not_so (high b == 117) front.1) back.0 ∙ ap (λ (v : ℕ). character (v ∷ []) 2) value

-- ---- a string

abbrev step : List ℕ → Piece → Option (List ℕ × List ℕ)
step bs p = elim p [ quote ↦ Some ([], bs) | character v n ↦ option_map (put_value v) (string_from n bs) | no_piece ↦ None ]

one_byte : (b : ℕ) (bs : List ℕ) → b < 256 → string_from 0 (byte_text b ++ bs) ≡ option_map (put_value (b ∷ [])) (string_from 0 bs)
one_byte b bs lt = by (stands_as_it_is b) refl
  where
    by : (t : Bool) → stands_as_it_is b ≡ t → string_from 0 ((if t then b ∷ [] else 92 ∷ high b ∷ low b ∷ []) ++ bs) ≡ option_map (put_value (b ∷ [])) (string_from 0 bs)
    by true is = ap (step bs) (as_it_stands b bs lt is)
    by false is = ap (step (high b ∷ low b ∷ bs)) (by_digits b bs lt)

pub read_back : (v rest : List ℕ) → AllByRecursion (λ b. b < 256) v → string_from 0 ((flat_map byte_text v ++ 34 ∷ []) ++ rest) ≡ Some (v, rest)
read_back [] rest f = refl
read_back (b ∷ v) rest f =
    let more = flat_map byte_text v in
    let whole : ((byte_text b ++ more) ++ 34 ∷ []) ++ rest ≡ byte_text b ++ ((more ++ 34 ∷ []) ++ rest) =
    ap (λ (xs : List ℕ). xs ++ rest) (append_assoc (byte_text b) more (34 ∷ [])) ∙ append_assoc (byte_text b) (more ++ 34 ∷ []) rest in
    ap (string_from 0) whole
    ∙ (one_byte b ((more ++ 34 ∷ []) ++ rest) f.0 ∙ ap (λ o. option_map (put_value (b ∷ [])) o) (read_back v rest f.1))

-- The names and numbers of the text: which tokens they are, and that they stand apart from what follows them.
use Rattle.std.proofs.Common.{◌≡◌, ℕ, suc, ◌+◌, ◌-◌, ◌%◌, ◌^◌, ◌≤◌, ◌<◌, Bool, true, false, ◌&&◌, not, List, [], ◌∷◌, ◌++◌, length, take, inl, inr, refl, ap, ◌∙◌, arith, codes, length-append}
use Rattle.std.specs.Prelude.{◌==◌, decimal}
use Rattle.std.specs.List.{list_all}
use Rattle.std.proofs.lemmas.Bool.{and_parts, and_from, and_right, both_ways, false_from_ne_true, eq-eqb, ne_eqb, not-true}
use Rattle.std.proofs.lemmas.Bool.Decides.{nat_tests}
use Rattle.std.proofs.lemmas.Fmt.{decimal_by_steps}
use Rattle.std.proofs.lemmas.List.{take_at}
use Rattle.asm_lang_tokens.specs.Bytes.{is_digit, is_name_byte, is_quote}
use Rattle.asm_lang_tokens.specs.Forms.{is_name, is_token, is_punctuator}
use Rattle.asm_lang_tokens.specs.Text.{token_len}
use Rattle.asm_lang_tokens.proofs.Longest.{longest_is}
use Rattle.asm_lang_tokens.proofs.Table.{of_punctuators}
use Rattle.asm_lang.specs.Lexemes.{identifier, class_in, reserved_words}
use Rattle.asm_lang.specs.Printing.{last_byte, runs_together}
use Rattle.asm_laws_print.specs.Spelled.{HasClass}
use Rattle.asm_laws_print.proofs.Longer.{is_decimal_byte, digit_in_name, name_bytes, number_bytes, decimal_bytes, Form, as_name, as_number, as_decimal, as_quoted, as_punctuator, form_of, one_more_byte}
use Rattle.asm_laws_print.proofs.NeatExprs.{number_first, name_token}
use Rattle.gen_lang.specs.Recipe.{name_of}

-- ---- digits

pub record Digits (ds : List ℕ) : Type 0 where
  pub some : 0 < length ds
  pub all : list_all is_digit ds ≡ true

digit_below : (n : ℕ) → n < 10 → is_digit (48 + n) ≡ true
digit_below n lt = grind (arith, nat_tests)

all_more : (ds es : List ℕ) → list_all is_digit ds ≡ true → list_all is_digit es ≡ true → list_all is_digit (ds ++ es) ≡ true
all_more [] es a b = b
all_more (d ∷ ds) es a b = let both = and_parts (is_digit d) (list_all is_digit ds) a in and_from (is_digit d) (list_all is_digit (ds ++ es)) both.0 (all_more ds es both.1 b)

pub digits_of : (n : ℕ) → n < 2 ^ 64 → Digits (decimal n)
digits_of n small = decimal_by_steps (λ n ds. Digits ds)
    (λ n lt. record { some = omega arith; all = and_from _ _ (digit_below n lt) refl })
    (λ n ds ge ih. record { some = omega (arith, length-append ds ((48 + n % 10) ∷ []), ih.some); all = all_more ds _ ih.all (and_from _ _ (digit_below (n % 10) (omega arith)) refl) })
    n small

all_names : (ds : List ℕ) → list_all is_digit ds ≡ true → list_all is_name_byte ds ≡ true
all_names [] h = refl
all_names (d ∷ ds) h = let both = and_parts (is_digit d) (list_all is_digit ds) h in and_from (is_name_byte d) (list_all is_name_byte ds) (digit_in_name d both.0) (all_names ds both.1)

-- a byte that isn't a digit isn't this one
pub other_byte : (b d : ℕ) → is_digit d ≡ true → is_digit b ≡ false → (b == d) ≡ false
other_byte b d h k = ne_eqb b d (λ e. both_ways (is_digit b) k (ap is_digit e ∙ h))

-- ---- names

pub name_is : (i : ℕ) → i < 2 ^ 64 → is_name (name_of i) ≡ true
name_is i small = all_names (decimal i) (digits_of i small).all

word_class : (ds : List ℕ) → list_all is_digit ds ≡ true → class_in reserved_words (102 ∷ ds) identifier ≡ identifier
word_class [] h = refl
word_class (d ∷ ds) h =
    let is = (and_parts (is_digit d) (list_all is_digit ds) h).0 in
    rw (other_byte 97 d is refl, other_byte 105 d is refl, other_byte 111 d is refl, other_byte 117 d is refl) refl

pub name_class : (i : ℕ) → i < 2 ^ 64 → HasClass identifier (name_of i)
name_class i small = rw (name_is i small) (word_class (decimal i) (digits_of i small).all)

-- ---- a longer token would be one with the next byte alone

take_more : (w : List ℕ) (c : ℕ) (cs : List ℕ) (k : ℕ) → take (length w + suc k) (w ++ c ∷ cs) ≡ w ++ c ∷ take k cs
take_more [] c cs k = let e : 0 + suc k ≡ suc k = omega arith in rw e refl
take_more (b ∷ bs) c cs k =
    let e : suc (length bs) + suc k ≡ suc (length bs + suc k) = omega arith in
    rw e (ap (λ (r : List ℕ). b ∷ r) (take_more bs c cs k))

apart : (x : ℕ) (w : List ℕ) (c : ℕ) (cs : List ℕ) → is_token (x ∷ w) ≡ true → is_token ((x ∷ w) ++ c ∷ []) ≡ false → (is_name_byte (last_byte (x ∷ w)) && is_name_byte c) ≡ false
    → runs_together (x ∷ w) (c ∷ cs) ≡ false
apart x w c cs is ends names =
    let whole : List ℕ = (x ∷ w) ++ c ∷ cs in
    let none : (k : ℕ) → is_token ((x ∷ w) ++ c ∷ take k cs) ≡ false = λ k. false_from_ne_true _ (λ long. elim (one_more_byte (x ∷ w) c (take k cs) is long) [
      | inl e ↦ both_ways _ ends e
      | inr e ↦ both_ways _ names e
    ]) in
    let more : (k : ℕ) → length (x ∷ w) < k → k ≤ length whole → is_token (take k whole) ≡ false = λ k lt le.
    let j : ℕ = k - length (x ∷ w) - 1 in
    let e : k ≡ length (x ∷ w) + suc j = omega (arith, lt) in
    ap (λ i. is_token (take i whole)) e ∙ (ap is_token (take_more (x ∷ w) c cs j) ∙ none j) in
    let len : token_len whole ≡ length (x ∷ w) = longest_is is_token whole (length (x ∷ w)) (length whole) (omega (arith, length-append (x ∷ w) (c ∷ cs))) (λ some. ap is_token (take_at (x ∷ w) (c ∷ cs) (length (x ∷ w)) refl) ∙ is) more in
    rw (names, eq-eqb (token_len whole) (length (x ∷ w)) len) refl

-- ---- words and numbers before a sign

last_of_all : (p : ℕ → Bool) (w : List ℕ) (c : ℕ) → list_all p (w ++ c ∷ []) ≡ true → p c ≡ true
last_of_all p [] c h = (and_parts (p c) true h).0
last_of_all p (b ∷ bs) c h = last_of_all p bs c (and_parts (p b) (list_all p (bs ++ c ∷ [])) h).1

no_word_first : List ℕ → Bool
no_word_first [] = true
no_word_first (b ∷ bs) = not (is_name_byte b)

name_no_quote : (b : ℕ) → is_name_byte b ≡ true → is_quote b ≡ false
name_no_quote b h = grind (arith, nat_tests)

no_form : (x : ℕ) (w : List ℕ) (c : ℕ) → is_name_byte x ≡ true → is_name_byte c ≡ false → is_decimal_byte c ≡ false → Form ((x ∷ w) ++ c ∷ []) → ⊥
unfolding no_word_first
no_form x w c is names decimals (as_name h) = both_ways (is_name_byte c) names (last_of_all is_name_byte (x ∷ w) c (name_bytes ((x ∷ w) ++ c ∷ []) h))
no_form x w c is names decimals (as_number h) = both_ways (is_name_byte c) names (last_of_all is_name_byte (x ∷ w) c (number_bytes ((x ∷ w) ++ c ∷ []) h))
no_form x w c is names decimals (as_decimal h) = both_ways (is_decimal_byte c) decimals (last_of_all is_decimal_byte (x ∷ w) c (decimal_bytes ((x ∷ w) ++ c ∷ []) h))
no_form x w c is names decimals (as_quoted h) = both_ways (is_quote x) (name_no_quote x is) (and_parts (is_quote x) _ h).0
no_form x w c is names decimals (as_punctuator h) = both_ways (is_name_byte x) (not-true (is_name_byte x) (of_punctuators no_word_first ((x ∷ w) ++ c ∷ []) refl h)) is

before_sign : (x : ℕ) (w : List ℕ) (c : ℕ) (cs : List ℕ) → is_token (x ∷ w) ≡ true → is_name_byte x ≡ true → is_name_byte c ≡ false → is_decimal_byte c ≡ false → runs_together (x ∷ w) (c ∷ cs) ≡ false
before_sign x w c cs is first names decimals =
    apart x w c cs is (false_from_ne_true _ (λ h. no_form x w c first names decimals (form_of ((x ∷ w) ++ c ∷ []) h))) (and_right (is_name_byte (last_byte (x ∷ w))) (is_name_byte c) names)

pub after_name : (i : ℕ) → i < 2 ^ 64 → (c : ℕ) (cs : List ℕ) → is_name_byte c ≡ false → is_decimal_byte c ≡ false → runs_together (name_of i) (c ∷ cs) ≡ false
after_name i small c cs names decimals = before_sign 102 (decimal i) c cs (name_token (name_of i) (name_is i small)) refl names decimals

digits_before : (w : List ℕ) → Digits w → is_token w ≡ true → (c : ℕ) (cs : List ℕ) → is_name_byte c ≡ false → is_decimal_byte c ≡ false → runs_together w (c ∷ cs) ≡ false
digits_before [] all is c cs names decimals = refl
digits_before (d ∷ ds) all is c cs names decimals = before_sign d ds c cs is (digit_in_name d (and_parts (is_digit d) (list_all is_digit ds) all.all).0) names decimals

pub after_number : (i : ℕ) → i < 2 ^ 64 → (c : ℕ) (cs : List ℕ) → is_name_byte c ≡ false → is_decimal_byte c ≡ false → runs_together (decimal i) (c ∷ cs) ≡ false
after_number i small c cs names decimals = digits_before (decimal i) (digits_of i small) (number_first i small).is c cs names decimals

-- ---- a sign before a name or a number

pub sign_and_name : (i : ℕ) → runs_together (codes "(") (name_of i) ≡ false
unfolding is_punctuator
sign_and_name i = apart 40 [] 102 (decimal i) refl refl refl

no_digit_second : List ℕ → Bool
no_digit_second [] = true
no_digit_second (b ∷ []) = true
no_digit_second (b ∷ c ∷ bs) = not (is_digit c)

no_sign_form : (s d : ℕ) → is_name_byte s ≡ false → is_decimal_byte s ≡ false → is_quote s ≡ false → is_digit d ≡ true → Form (s ∷ d ∷ []) → ⊥
unfolding no_digit_second
no_sign_form s d names decimals quotes is (as_name h) = both_ways (is_name_byte s) names (and_parts (is_name_byte s) _ (name_bytes (s ∷ d ∷ []) h)).0
no_sign_form s d names decimals quotes is (as_number h) = both_ways (is_name_byte s) names (and_parts (is_name_byte s) _ (number_bytes (s ∷ d ∷ []) h)).0
no_sign_form s d names decimals quotes is (as_decimal h) = both_ways (is_decimal_byte s) decimals (and_parts (is_decimal_byte s) _ (decimal_bytes (s ∷ d ∷ []) h)).0
no_sign_form s d names decimals quotes is (as_quoted h) = both_ways (is_quote s) quotes (and_parts (is_quote s) _ h).0
no_sign_form s d names decimals quotes is (as_punctuator h) = both_ways (is_digit d) (not-true (is_digit d) (of_punctuators no_digit_second (s ∷ d ∷ []) refl h)) is

sign_and_digits : (s : ℕ) (w : List ℕ) → Digits w → is_token (s ∷ []) ≡ true → is_name_byte s ≡ false → is_decimal_byte s ≡ false → is_quote s ≡ false → runs_together (s ∷ []) w ≡ false
sign_and_digits s [] all is names decimals quotes = absurd (omega (arith, all.some))
sign_and_digits s (d ∷ ds) all is names decimals quotes =
    let digit = (and_parts (is_digit d) (list_all is_digit ds) all.all).0 in
    apart s [] d ds is (false_from_ne_true _ (λ h. no_sign_form s d names decimals quotes digit (form_of (s ∷ d ∷ []) h))) (rw names refl)

pub sum_and_number : (i : ℕ) → i < 2 ^ 64 → runs_together (codes "+") (decimal i) ≡ false
unfolding is_punctuator
sum_and_number i small = sign_and_digits 43 (decimal i) (digits_of i small) refl refl refl refl

pub bracket_and_number : (i : ℕ) → i < 2 ^ 64 → runs_together (codes "[") (decimal i) ≡ false
unfolding is_punctuator
bracket_and_number i small = sign_and_digits 91 (decimal i) (digits_of i small) refl refl refl refl

-- The forms that a token may have, by its first byte.
use Rattle.std.proofs.Common.{◌≡◌, ℕ, Bool, true, false, ◌||◌, List, [], ◌∷◌, refl, arith, eqb}
use Rattle.std.specs.List.{list_all}
use Rattle.std.proofs.lemmas.Bool.{and_left, or_from, or_parts, or_left, or_right}
use Rattle.std.proofs.lemmas.Bool.Decides.{nat_tests}
use Rattle.asm_lang_tokens.specs.Bytes.{is_digit, begins_name, is_name_byte, is_quote}
use Rattle.asm_lang_tokens.specs.Forms.{is_name, is_plain, is_hexadecimal, is_number, is_decimal, is_quoted, is_punctuator, is_token, ends_quoted}
use Rattle.asm_lang_tokens.proofs.Table.{begins_word, no_word_is_punctuator}

-- ---- bytes

pub digit_not_zero_mark : (b : ℕ) → is_digit b ≡ false → eqb b 48 ≡ false
digit_not_zero_mark b h = grind (arith, nat_tests)

pub digit_not_dot : (b : ℕ) → is_digit b ≡ true → eqb b 46 ≡ false
digit_not_dot b h = grind (arith, nat_tests)

pub name_not_digit : (b : ℕ) → begins_name b ≡ true → is_digit b ≡ false
name_not_digit b h = grind (arith, nat_tests)

pub name_not_dot : (b : ℕ) → begins_name b ≡ true → eqb b 46 ≡ false
name_not_dot b h = grind (arith, nat_tests)

pub name_not_quote : (b : ℕ) → begins_name b ≡ true → is_quote b ≡ false
name_not_quote b h = grind (arith, nat_tests)

pub digit_not_name : (b : ℕ) → is_digit b ≡ true → begins_name b ≡ false
digit_not_name b h = grind (arith, nat_tests)

pub digit_not_quote : (b : ℕ) → is_digit b ≡ true → is_quote b ≡ false
digit_not_quote b h = grind (arith, nat_tests)

pub quote_not_name : (b : ℕ) → is_quote b ≡ true → begins_name b ≡ false
quote_not_name b h = grind (arith, nat_tests)

pub quote_not_digit : (b : ℕ) → is_quote b ≡ true → is_digit b ≡ false
quote_not_digit b h = grind (arith, nat_tests)

pub quote_not_dot : (b : ℕ) → is_quote b ≡ true → eqb b 46 ≡ false
quote_not_dot b h = grind (arith, nat_tests)

-- ---- what each form needs

pub name_needs : (b : ℕ) (bs : List ℕ) → begins_name b ≡ false → is_name (b ∷ bs) ≡ false
name_needs b bs h = and_left (begins_name b) (list_all is_name_byte bs) h

plain_needs : (b : ℕ) (bs : List ℕ) → is_digit b ≡ false → is_plain (b ∷ bs) ≡ false
plain_needs b bs h = rw (digit_not_zero_mark b h, h) refl

hexadecimal_needs : (b : ℕ) (bs : List ℕ) → is_digit b ≡ false → is_hexadecimal (b ∷ bs) ≡ false
hexadecimal_needs b [] h = refl
hexadecimal_needs b (c ∷ bs) h = rw (digit_not_zero_mark b h) refl

pub number_needs : (b : ℕ) (bs : List ℕ) → is_digit b ≡ false → is_number (b ∷ bs) ≡ false
number_needs b bs h = and_left _ _ (or_from (is_plain (b ∷ bs)) (is_hexadecimal (b ∷ bs)) (plain_needs b bs h) (hexadecimal_needs b bs h))

pub decimal_needs : (b : ℕ) (bs : List ℕ) → is_digit b ≡ false → eqb b 46 ≡ false → is_decimal (b ∷ bs) ≡ false
decimal_needs b bs h e = rw (e, digit_not_zero_mark b h, h) refl

pub quoted_needs : (b : ℕ) (bs : List ℕ) → is_quote b ≡ false → is_quoted (b ∷ bs) ≡ false
quoted_needs b bs h = and_left (is_quote b) (ends_quoted b bs) h

-- each test of a first byte that is part of `begins_word` fails
pub apart : (b : ℕ) → begins_word b ≡ false → (begins_name b ≡ false) × (is_digit b ≡ false) × (is_quote b ≡ false)
apart b h = let both = or_parts (begins_name b || is_digit b) (is_quote b) h in let first = or_parts (begins_name b) (is_digit b) both.0 in (first.0, first.1, both.1)

-- ---- what is left of the test for tokens

-- it is a name, or no token
pub word_is_name : (b : ℕ) (bs : List ℕ) → begins_name b ≡ true → is_token (b ∷ bs) ≡ is_name (b ∷ bs)
word_is_name b bs h =
    rw (number_needs b bs (name_not_digit b h), decimal_needs b bs (name_not_digit b h) (name_not_dot b h), quoted_needs b bs (name_not_quote b h), no_word_is_punctuator b bs (or_left _ (is_quote b) (or_left _ (is_digit b) h)))
    (or_false (is_name (b ∷ bs)))
  where
    or_false : (t : Bool) → ((t || false) || false) ≡ t
    or_false true = refl
    or_false false = refl

-- it is a number or a decimal, or no token
pub word_is_numeral : (b : ℕ) (bs : List ℕ) → is_digit b ≡ true → is_token (b ∷ bs) ≡ (is_number (b ∷ bs) || is_decimal (b ∷ bs))
word_is_numeral b bs h =
    rw (name_needs b bs (digit_not_name b h), quoted_needs b bs (digit_not_quote b h), no_word_is_punctuator b bs (or_left _ (is_quote b) (or_right (begins_name b) _ h)))
    (or_false (is_number (b ∷ bs) || is_decimal (b ∷ bs)))
  where
    or_false : (t : Bool) → (t || false) ≡ t
    or_false true = refl
    or_false false = refl

-- it is quoted, or no token
pub word_is_quoted : (b : ℕ) (bs : List ℕ) → is_quote b ≡ true → is_token (b ∷ bs) ≡ is_quoted (b ∷ bs)
word_is_quoted b bs h =
    rw (name_needs b bs (quote_not_name b h), number_needs b bs (quote_not_digit b h), decimal_needs b bs (quote_not_digit b h) (quote_not_dot b h), no_word_is_punctuator b bs (or_right (begins_name b || is_digit b) _ h))
    (or_false (is_quoted (b ∷ bs)))
  where
    or_false : (t : Bool) → (t || false) ≡ t
    or_false true = refl
    or_false false = refl

-- it is a punctuator, or no token
pub word_is_sign : (b : ℕ) (bs : List ℕ) → begins_word b ≡ false → eqb b 46 ≡ false → is_token (b ∷ bs) ≡ is_punctuator (b ∷ bs)
word_is_sign b bs h e = let parts = apart b h in rw (name_needs b bs parts.0, number_needs b bs parts.1, decimal_needs b bs parts.1 e, quoted_needs b bs parts.2) refl

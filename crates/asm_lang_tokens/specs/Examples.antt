-- Worked examples that the check computes.
use Rattle.std.specs.Prelude.{◌≡◌, true, false, [], ◌∷◌, Ok, Err, codes, refl}
use Rattle.asm_lang_tokens.specs.Forms.{is_name, is_number, number_value, is_decimal, is_quoted, is_punctuator, is_comment, name, number, decimal, punctuator}
use Rattle.asm_lang_tokens.specs.Text.{token_len, comment_len, front_of, gap, token, fault, non_ascii, bad_token, open_comment, literal_form, the_end, a_fault, a_gap, a_token, IsReading}

-- ---- forms

pub dollar_begins_a_name : is_name (codes "$x_1") ≡ true
dollar_begins_a_name = refl

pub needless_zero_is_no_number : is_number (codes "08") ≡ false
needless_zero_is_no_number = refl

pub largest_number : is_number (codes "18446744073709551615") ≡ true
largest_number = refl

pub too_large_for_a_number : is_number (codes "18446744073709551616") ≡ false
too_large_for_a_number = refl

pub hexadecimal_number : number_value (codes "0xfF") ≡ 255
hexadecimal_number = refl

pub mark_without_digits_is_no_number : is_number (codes "0x") ≡ false
mark_without_digits_is_no_number = refl

pub decimal_without_digits_after_the_dot : is_decimal (codes "5.") ≡ true
decimal_without_digits_after_the_dot = refl

pub decimal_without_digits_before_the_dot : is_decimal (codes ".5") ≡ true
decimal_without_digits_before_the_dot = refl

pub dot_alone_is_no_decimal : is_decimal (codes ".") ≡ false
dot_alone_is_no_decimal = refl

pub other_quote_inside : is_quoted (codes "'a\"b'") ≡ true
other_quote_inside = refl

pub backslash_is_not_quoted : is_quoted (codes "'a\\b'") ≡ false
backslash_is_not_quoted = refl

pub three_dots_are_no_punctuator : is_punctuator (codes "...") ≡ false
unfolding is_punctuator
three_dots_are_no_punctuator = refl

pub block_comment_ends_at_the_next_close : is_comment (codes "/* */ */") ≡ false
block_comment_ends_at_the_next_close = refl

pub slash_star_slash_is_no_comment : is_comment (codes "/*/") ≡ false
slash_star_slash_is_no_comment = refl

-- ---- the longest

pub four_bytes_of_a_shift : token_len (codes ">>>=b") ≡ 4
unfolding is_punctuator
four_bytes_of_a_shift = refl

pub large_whole_part_of_a_decimal : token_len (codes "18446744073709551616.5;") ≡ 22
unfolding is_punctuator
large_whole_part_of_a_decimal = refl

pub comment_up_to_the_next_close : comment_len (codes "/* */ */") ≡ 5
comment_up_to_the_next_close = refl

-- ---- what stands at the front

pub hexadecimal_at_the_front : front_of (codes "0x10;") ≡ token (number 16) 4
unfolding is_punctuator
hexadecimal_at_the_front = refl

pub decimal_at_the_front : front_of (codes "1.5+") ≡ token decimal 3
unfolding is_punctuator
decimal_at_the_front = refl

pub exponent_is_refused : front_of (codes "1e5") ≡ fault literal_form 0
unfolding is_punctuator
exponent_is_refused = refl

pub second_dot_is_refused : front_of (codes "1.5.2") ≡ fault literal_form 0
unfolding is_punctuator
second_dot_is_refused = refl

pub needless_zero_is_refused : front_of (codes "08") ≡ fault literal_form 0
unfolding is_punctuator
needless_zero_is_refused = refl

pub mark_without_digits_is_refused : front_of (codes "0x") ≡ fault literal_form 0
unfolding is_punctuator
mark_without_digits_is_refused = refl

pub open_quote_is_refused : front_of (codes "'a") ≡ fault bad_token 0
unfolding is_punctuator
open_quote_is_refused = refl

pub open_comment_is_refused : front_of (codes "/*/") ≡ fault open_comment 0
open_comment_is_refused = refl

-- `// a`, a line separator, `b`
pub separator_in_a_comment_is_refused : front_of (47 ∷ 47 ∷ 97 ∷ 226 ∷ 128 ∷ 168 ∷ 98 ∷ []) ≡ fault non_ascii 3
separator_in_a_comment_is_refused = refl

-- `// `, e with an acute accent, a line feed
pub other_bytes_in_a_comment : front_of (47 ∷ 47 ∷ 195 ∷ 169 ∷ 10 ∷ []) ≡ gap 4
other_bytes_in_a_comment = refl

pub byte_above_ascii_is_refused : front_of (195 ∷ 169 ∷ []) ≡ fault non_ascii 0
byte_above_ascii_is_refused = refl

-- a byte above 7F between quotes is a fault of the quote
pub quoted_byte_above_ascii_is_refused : front_of (39 ∷ 195 ∷ 169 ∷ 39 ∷ []) ≡ fault bad_token 0
unfolding is_punctuator
quoted_byte_above_ascii_is_refused = refl

-- ---- whole texts

pub assignment_and_decrement : IsReading (codes "a>>>=b--c") (Ok (
    record { kind = name; text = codes "a"; at = 0; line_before = false }
    ∷ record { kind = punctuator; text = codes ">>>="; at = 1; line_before = false }
    ∷ record { kind = name; text = codes "b"; at = 5; line_before = false }
    ∷ record { kind = punctuator; text = codes "--"; at = 6; line_before = false }
    ∷ record { kind = name; text = codes "c"; at = 8; line_before = false } ∷ []))
unfolding is_punctuator
assignment_and_decrement = a_token refl (a_token refl (a_token refl (a_token refl (a_token refl the_end))))

-- a line end within a block comment counts, and one before the last token does not count for the next one
pub line_ends_before_tokens : IsReading (codes "a/*\n*/b c") (Ok (
    record { kind = name; text = codes "a"; at = 0; line_before = false }
    ∷ record { kind = name; text = codes "b"; at = 6; line_before = true }
    ∷ record { kind = name; text = codes "c"; at = 8; line_before = false } ∷ []))
unfolding is_punctuator
line_ends_before_tokens = a_token refl (a_gap refl (a_token refl (a_gap refl (a_token refl the_end))))

pub first_fault_of_two : IsReading (codes "a 08 @") (Err (record { fault = literal_form; at = 2 }))
unfolding is_punctuator
first_fault_of_two = a_token refl (a_gap refl (a_fault refl))

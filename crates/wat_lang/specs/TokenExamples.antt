-- Worked examples of tokens that the check computes.
use Rattle.std.specs.Prelude.{◌≡◌, [], ◌∷◌, Some, None, codes, refl}
use Rattle.std.proofs.Math.Utf8.{encode}
use Rattle.wat_lang.specs.Tokens.{opens, closes, string, atom, comment_rest, string_from, front_of, gap, token, no_front, the_end, a_fault, a_gap, a_token, HasTokens, HasNoTokenAt}

-- ---- comments

pub comments_nest : comment_rest 0 (codes "(;;)x;)y") ≡ Some (codes "y")
comments_nest = refl

pub a_pair_takes_both_bytes : comment_rest 0 (codes ")") ≡ None
a_pair_takes_both_bytes = refl

pub open_comment : front_of (codes "(;(;;)") ≡ no_front
open_comment = refl

pub line_comment_ends_at_a_line_feed_alone : front_of (codes ";; a\r(b\n)") ≡ gap 7
line_comment_ends_at_a_line_feed_alone = refl

-- ---- strings

pub bytes_as_they_stand : string_from 0 (codes "a;;b\"c") ≡ Some (codes "a;;b", codes "c")
bytes_as_they_stand = refl

pub escapes_of_one_byte : string_from 0 (codes "\\t\\n\\r\\\"\\'\\\\\\fF\"") ≡ Some (9 ∷ 10 ∷ 13 ∷ 34 ∷ 39 ∷ 92 ∷ 255 ∷ [], [])
escapes_of_one_byte = refl

pub scalar_value : string_from 0 (codes "\\u{00e9}\"") ≡ Some (195 ∷ 169 ∷ [], [])
unfolding encode
scalar_value = refl

pub surrogate : front_of (codes "\"\\u{d800}\"") ≡ no_front
surrogate = refl

pub past_the_last_scalar_value : string_from 0 (codes "\\u{110000}\"") ≡ None
past_the_last_scalar_value = refl

pub no_digit : string_from 0 (codes "\\u{}\"") ≡ None
no_digit = refl

pub control_byte : string_from 0 (codes "\n\"") ≡ None
control_byte = refl

pub open_string : string_from 0 (codes "a") ≡ None
open_string = refl

-- bytes that are no UTF-8 may stand in a string
pub bytes_from_80_on : string_from 0 (255 ∷ 34 ∷ []) ≡ Some (255 ∷ [], [])
bytes_from_80_on = refl

-- ---- atoms

pub atom_runs_on : front_of (codes "i32.load8_s offset=1") ≡ token (atom (codes "i32.load8_s")) 11
atom_runs_on = refl

pub comma_begins_nothing : front_of (codes ",") ≡ no_front
comma_begins_nothing = refl

-- ---- whole texts

pub tokens_without_gaps : HasTokens (codes "(x\"a\"\"b\") ;;c") (
    record { class = opens; at = 0 }
    ∷ record { class = atom (codes "x"); at = 1 }
    ∷ record { class = string (codes "a"); at = 2 }
    ∷ record { class = string (codes "b"); at = 5 }
    ∷ record { class = closes; at = 8 } ∷ [])
tokens_without_gaps = a_token refl (a_token refl (a_token refl (a_token refl (a_token refl (a_gap refl (a_gap refl the_end))))))

pub string_that_is_open : HasNoTokenAt (codes "(x \"a") 3
string_that_is_open = a_token refl (a_token refl (a_gap refl (a_fault refl)))

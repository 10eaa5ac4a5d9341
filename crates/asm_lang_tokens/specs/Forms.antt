-- The forms of tokens and comments, each as a test of a whole list of bytes (ECMA-262, 6th edition, sections 11.4 and 11.6
-- to 11.8, without escapes, exponents, octal and binary numbers, templates and regular expressions).
use Rattle.std.specs.Prelude.{ℕ, ◌+◌, ◌*◌, ◌^◌, Bool, true, false, ◌&&◌, ◌||◌, not, List, [], ◌∷◌, drop, codes, bytes_eq, nat_lt, ◌==◌, if◌then◌else◌}
use Rattle.std.specs.List.{list_all, list_any}
use Rattle.asm_lang_tokens.specs.Bytes.{is_digit, is_hexadecimal_digit, digit_value, begins_name, is_name_byte, is_line_end, is_hexadecimal_mark, is_quote, may_be_quoted}

abbrev pub is_empty : List ℕ → Bool
is_empty [] = true
is_empty (b ∷ bs) = false

-- one byte or more, each of which passes
abbrev pub is_some_of : (ℕ → Bool) → List ℕ → Bool
is_some_of test [] = false
is_some_of test (b ∷ bs) = test b && list_all test bs

abbrev pub is_name : List ℕ → Bool
is_name [] = false
is_name (b ∷ bs) = begins_name b && list_all is_name_byte bs

-- ---- numbers

-- the value of digits in a base, after those whose value is n
abbrev pub value_in : ℕ → ℕ → List ℕ → ℕ
value_in base n [] = n
value_in base n (d ∷ ds) = value_in base (base * n + digit_value d) ds

-- `0`, or digits that don't begin with 0
abbrev pub is_plain : List ℕ → Bool
is_plain [] = false
is_plain (d ∷ ds) = if d == 48 then is_empty ds else is_some_of is_digit (d ∷ ds)

-- `0x` or `0X`, and hexadecimal digits
abbrev pub is_hexadecimal : List ℕ → Bool
is_hexadecimal [] = false
is_hexadecimal (a ∷ []) = false
is_hexadecimal (a ∷ b ∷ ds) = ((a == 48) && is_hexadecimal_mark b) && is_some_of is_hexadecimal_digit ds

-- the value of a number of either form
abbrev pub number_value : List ℕ → ℕ
number_value [] = 0
number_value (a ∷ []) = digit_value a
number_value (a ∷ b ∷ ds) = if is_hexadecimal_mark b then value_in 16 0 ds else value_in 10 0 (a ∷ b ∷ ds)

-- a value of at most 2^64 - 1
abbrev pub is_number : List ℕ → Bool
is_number bs = (is_plain bs || is_hexadecimal bs) && nat_lt (number_value bs) (2 ^ 64)

-- `.`, and digits or none
abbrev pub is_fraction : List ℕ → Bool
is_fraction [] = false
is_fraction (b ∷ bs) = (b == 46) && list_all is_digit bs

-- digits or none, and then a fraction
abbrev pub ends_in_fraction : List ℕ → Bool
ends_in_fraction [] = false
ends_in_fraction (b ∷ bs) = is_fraction (b ∷ bs) || (is_digit b && ends_in_fraction bs)

-- `.` and at least one digit; or `0` or digits that don't begin with 0, and a fraction
abbrev pub is_decimal : List ℕ → Bool
is_decimal [] = false
is_decimal (b ∷ bs) =
    if b == 46 then is_some_of is_digit bs
    else (if b == 48 then is_fraction bs else is_digit b && ends_in_fraction bs)

-- ---- quoted texts

-- what may be quoted, and at last the quote q
abbrev pub ends_quoted : ℕ → List ℕ → Bool
ends_quoted q [] = false
ends_quoted q (b ∷ bs) = if is_empty bs then b == q else may_be_quoted q b && ends_quoted q bs

abbrev pub is_quoted : List ℕ → Bool
is_quoted [] = false
is_quoted (q ∷ bs) = is_quote q && ends_quoted q bs

-- ---- punctuators

abbrev pub punctuators : List (List ℕ)
punctuators =
    codes "{" ∷ codes "}" ∷ codes "(" ∷ codes ")" ∷ codes "[" ∷ codes "]" ∷ codes "." ∷ codes ";" ∷ codes ","
    ∷ codes "<" ∷ codes ">" ∷ codes "<=" ∷ codes ">=" ∷ codes "==" ∷ codes "!=" ∷ codes "===" ∷ codes "!=="
    ∷ codes "+" ∷ codes "-" ∷ codes "*" ∷ codes "/" ∷ codes "%" ∷ codes "++" ∷ codes "--"
    ∷ codes "<<" ∷ codes ">>" ∷ codes ">>>" ∷ codes "&" ∷ codes "|" ∷ codes "^" ∷ codes "!" ∷ codes "~"
    ∷ codes "&&" ∷ codes "||" ∷ codes "?" ∷ codes ":" ∷ codes "=" ∷ codes "+=" ∷ codes "-=" ∷ codes "*="
    ∷ codes "/=" ∷ codes "%=" ∷ codes "<<=" ∷ codes ">>=" ∷ codes ">>>=" ∷ codes "&=" ∷ codes "|=" ∷ codes "^="
    ∷ codes "=>" ∷ []

unfoldable pub is_punctuator : List ℕ → Bool
is_punctuator bs = list_any (bytes_eq bs) punctuators

-- ---- tokens

abbrev pub is_token : List ℕ → Bool
is_token bs = (is_name bs || (is_number bs || is_decimal bs)) || (is_quoted bs || is_punctuator bs)

pub data Kind : Type 0 where
  name : Kind
  number : ℕ → Kind
  decimal : Kind
  quoted : Kind
  punctuator : Kind

-- what kind a token is of
abbrev pub kind_of : List ℕ → Kind
kind_of bs =
    if is_name bs then name
    else (if is_number bs then number (number_value bs)
    else (if is_decimal bs then decimal
    else (if is_quoted bs then quoted else punctuator)))

-- ---- comments

-- `*/`
abbrev pub begins_close : List ℕ → Bool
begins_close [] = false
begins_close (a ∷ []) = false
begins_close (a ∷ b ∷ bs) = (a == 42) && (b == 47)

-- bytes up to the first `*/`, and no further
abbrev pub is_up_to_close : List ℕ → Bool
is_up_to_close [] = false
is_up_to_close (b ∷ bs) = if begins_close (b ∷ bs) then is_empty (drop 1 bs) else is_up_to_close bs

-- `//` and no line end, or `/*` up to the next `*/`
abbrev pub is_comment : List ℕ → Bool
is_comment [] = false
is_comment (a ∷ []) = false
is_comment (a ∷ b ∷ bs) =
    (a == 47) && (((b == 47) && list_all (λ c. not (is_line_end c)) bs) || ((b == 42) && is_up_to_close bs))

-- U+2028 or U+2029, the other line ends of ECMA-262, in UTF-8
abbrev pub begins_separator : List ℕ → Bool
begins_separator [] = false
begins_separator (a ∷ []) = false
begins_separator (a ∷ b ∷ []) = false
begins_separator (a ∷ b ∷ c ∷ bs) = ((a == 226) && (b == 128)) && ((c == 168) || (c == 169))

-- Classes of bytes (ECMA-262, 6th edition, sections 11.2, 11.3, 11.6 and 11.8), as far as ASCII goes.
use Rattle.std.specs.Prelude.{ℕ, ◌-◌, Bool, ◌&&◌, ◌||◌, not, nat_le, nat_lt, ◌==◌, if◌then◌else◌}

-- 0 to 7F
abbrev pub is_ascii : ℕ → Bool
is_ascii b = nat_lt b 128

-- 0 to 9
abbrev pub is_digit : ℕ → Bool
is_digit b = nat_le 48 b && nat_le b 57

-- 0 to 9, a to f, A to F
abbrev pub is_hexadecimal_digit : ℕ → Bool
is_hexadecimal_digit b = is_digit b || ((nat_le 97 b && nat_le b 102) || (nat_le 65 b && nat_le b 70))

-- what a digit of either kind counts
abbrev pub digit_value : ℕ → ℕ
digit_value b = if nat_le 97 b then b - 87 else (if nat_le 65 b then b - 55 else b - 48)

-- a letter, `_` or `$`
abbrev pub begins_name : ℕ → Bool
begins_name b = ((nat_le 97 b && nat_le b 122) || (nat_le 65 b && nat_le b 90)) || ((b == 95) || (b == 36))

-- what may follow in a name
abbrev pub is_name_byte : ℕ → Bool
is_name_byte b = begins_name b || is_digit b

-- line feed, carriage return
abbrev pub is_line_end : ℕ → Bool
is_line_end b = (b == 10) || (b == 13)

-- space, tab, line feed, vertical tab, form feed, carriage return
abbrev pub is_gap_byte : ℕ → Bool
is_gap_byte b = (b == 32) || (nat_le 9 b && nat_le b 13)

-- `x`, `X`
abbrev pub is_hexadecimal_mark : ℕ → Bool
is_hexadecimal_mark b = (b == 120) || (b == 88)

-- `"`, `'`
abbrev pub is_quote : ℕ → Bool
is_quote b = (b == 34) || (b == 39)

-- what may stand between two quotes q: ASCII, but that quote, `\` and a line end
abbrev pub may_be_quoted : ℕ → ℕ → Bool
may_be_quoted q b = (is_ascii b && not (b == q)) && not ((b == 92) || is_line_end b)

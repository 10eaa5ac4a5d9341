-- What the code's values say.
use Rattle.std.specs.Prelude.{ℕ, ◌+◌, ◌*◌, ◌^◌, ◌&&◌, List, Option, Some, None, nat_lt, if◌then◌else◌}
use Rattle.std.specs.Str.{all_ascii_digits}
use Rattle.std.specs.Char.{is_ascii_digit, digit_value}
use Rattle.std.specs.Str.Parse.{digits_value_after}

-- the number, where it is below 2 ^ 64
abbrev pub kept_below : Option ℕ → Option ℕ
kept_below None = None
kept_below (Some n) = if nat_lt n (2 ^ 64) then Some n else None

-- the number that digits write when they follow those of n, where it is below 2 ^ 64
abbrev pub digits_from : ℕ → List ℕ → Option ℕ
digits_from n word = if all_ascii_digits word && nat_lt (digits_value_after 10 n word) (2 ^ 64) then Some (digits_value_after 10 n word) else None

-- the number with one more digit, where it is below 2 ^ 64
abbrev pub with_digit : ℕ → ℕ → Option ℕ
with_digit n d = if is_ascii_digit d && nat_lt (n * 10 + digit_value d) (2 ^ 64) then Some (n * 10 + digit_value d) else None

abbrev pub digits_below : List ℕ → Option ℕ
digits_below word = digits_from 0 word

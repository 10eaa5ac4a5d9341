-- The numbers that the words may write.
use Rattle.std.specs.Prelude.{◌==◌, ◌&&◌, ◌||◌, ◌%◌, ◌^◌, ℕ, Bool, false, [], ◌∷◌}
use Rattle.std.specs.Prelude.{Option, Some, None, if◌then◌else◌, nat_le}
use Rattle.std.specs.List.{list_any}
use Rattle.std.specs.Str.{all_ascii_digits}
use Rattle.std.specs.Str.Parse.{digits_value}
use Rattle.clap.specs.Walk.{Text, is_empty}

-- `0`, or decimal digits of which the first is not 0
abbrev pub is_number : Text → Bool
is_number [] = false
is_number (x ∷ xs) = if x == 48 then is_empty xs else all_ascii_digits (x ∷ xs)

unfoldable pub number_of : Text → Option ℕ
number_of text = if is_number text then Some (digits_value 10 text) else None

-- the number, where it passes the test
abbrev pub kept : (ℕ → Bool) → Option ℕ → Option ℕ
kept test None = None
kept test (Some n) = if test n then Some n else None

abbrev pub is_small_heap : ℕ → Bool
is_small_heap n = list_any (λ k. 2 ^ k == n) (12 ∷ 13 ∷ 14 ∷ 15 ∷ 16 ∷ 17 ∷ 18 ∷ 19 ∷ 20 ∷ 21
    ∷ 22 ∷ 23 ∷ [])

-- a power of two from 2^12 to 2^23, or a multiple of 2^24 from 2^24 to 2^28
unfoldable pub is_heap : ℕ → Bool
is_heap n = is_small_heap n || (n % 2 ^ 24 == 0 && (nat_le (2 ^ 24) n && nat_le n (2 ^ 28)))

unfoldable pub is_steps : ℕ → Bool
is_steps n = nat_le n 1000000000

-- how many functions a text is made of
unfoldable pub is_gen_count : ℕ → Bool
is_gen_count n = nat_le 1 n && nat_le n 10000

-- the option's number, and `absent` where it is not given
abbrev pub number_or : ℕ → (ℕ → Bool) → Option Text → Option ℕ
number_or absent test None = Some absent
number_or absent test (Some text) = kept test (number_of text)

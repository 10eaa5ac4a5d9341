-- The numbers of a script.
use Rattle.std.specs.Prelude.{ℕ, zero, suc, ◌^◌, Bool, false, List, [], ◌∷◌, Option, Some, None, ℤ, pos, negsuc, nat_lt, nat_le, ◌==◌, if◌then◌else◌}
use Rattle.std.specs.Str.{all_ascii_digits}
use Rattle.std.specs.Str.Parse.{digits_value}

-- digits of which the first isn't 0
abbrev pub is_plain : List ℕ → Bool
is_plain [] = false
is_plain (b ∷ bs) = if b == 48 then false else all_ascii_digits (b ∷ bs)

abbrev pub plain_value : List ℕ → Option ℕ
plain_value word = if is_plain word then Some (digits_value 10 word) else None

-- the number below this bound
abbrev pub below : ℕ → Option ℕ → Option ℤ
below bound None = None
below bound (Some n) = if nat_lt n bound then Some (pos n) else None

abbrev pub minus : ℕ → ℤ
minus zero = pos 0
minus (suc n) = negsuc n

-- the number turned, down to this bound
abbrev pub turned : ℕ → Option ℕ → Option ℤ
turned bound None = None
turned bound (Some n) = if nat_le n bound then Some (minus n) else None

abbrev pub natural_of : List ℕ → Option ℕ
natural_of [] = None
natural_of (b ∷ bs) = if b == 48 then zero_of bs else plain_value (b ∷ bs)
  where
    zero_of : List ℕ → Option ℕ
    zero_of [] = Some 0
    zero_of (c ∷ cs) = None

-- `0`, or an optional `-` and digits that don't begin with 0, in [-2 ^ 63, 2 ^ 64)
abbrev pub number_of : List ℕ → Option ℤ
number_of [] = None
number_of (b ∷ bs) = if b == 45 then turned (2 ^ 63) (plain_value bs) else below (2 ^ 64) (natural_of (b ∷ bs))

-- a place: a number in [0, 2 ^ 28)
abbrev pub as_place : Option ℤ → Option ℕ
as_place (Some (pos n)) = if nat_lt n (2 ^ 28) then Some n else None
as_place _ = None

abbrev pub place_of : List ℕ → Option ℕ
place_of word = as_place (number_of word)

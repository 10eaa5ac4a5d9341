-- What stands behind the opening quote of a string.
use Rattle.std.specs.Prelude.{◌≡◌, ℕ, ◌+◌, ◌-◌, ◌<◌, ◌≤◌, Bool, true, false, List, [], length, take, drop, Option, Some, None, option_map}
use Rattle.wat_lang.specs.Tokens.{string_from, put_value}

abbrev pub value_in : Option (List ℕ × List ℕ) → List ℕ
value_in None = []
value_in (Some s) = s.0

-- what the string stands for
abbrev pub value_of : List ℕ → List ℕ
value_of bs = value_in (string_from 0 bs)

-- so many bytes stand before the closing quote; where it is plain, each stands for itself, and where it isn't, they stand for fewer
pub record IsClosed (bs : List ℕ) (n : ℕ) (plain : Bool) : Type 0 where
  pub is : string_from 0 bs ≡ Some (value_of bs, drop (n + 1) bs)
  pub within : n < length bs
  pub plainly : plain ≡ true → value_of bs ≡ take n bs
  pub escaped : plain ≡ false → length (value_of bs) < n

-- they end at so many bytes, before the closing quote
abbrev pub EndsAt : List ℕ → ℕ → Type 0
EndsAt bs n = (string_from 0 bs ≡ Some (value_of bs, drop (n + 1) bs)) × (n < length bs)

-- the bytes before what follows the closing quote, and before that quote
abbrev pub quoted_in : List ℕ → Option (List ℕ × List ℕ) → List ℕ
quoted_in bs None = []
quoted_in bs (Some s) = take (length bs - (length s.1 + 1)) bs

abbrev pub IsClosedSomewhere : List ℕ → Type 0
IsClosedSomewhere bs = string_from 0 bs ≡ None → ⊥

-- the first n bytes stand for these
pub record Passed (bs : List ℕ) (n : ℕ) (so_far : List ℕ) : Type 0 where
  pub is : string_from 0 bs ≡ option_map (put_value so_far) (string_from 0 (drop n bs))
  pub within : n ≤ length bs

-- .. and where they are plain, each for itself; else they stand for fewer
pub record Scanned (bs : List ℕ) (n : ℕ) (plain : Bool) : Type 0 where
  pub so_far : List ℕ
  pub passed : Passed bs n so_far
  pub no_more : length so_far ≤ n
  pub plainly : plain ≡ true → so_far ≡ take n bs
  pub escaped : plain ≡ false → length so_far < n

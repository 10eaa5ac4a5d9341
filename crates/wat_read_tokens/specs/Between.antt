-- The ranges of numbers.
use Rattle.std.specs.Prelude.{◌≡◌, ℕ, ◌-◌, ◌^◌, Bool, true, false, min, Option, Some, None, ℤ, pos, negsuc, neg_ℤ}
use Rattle.wat_lang.specs.Modules.{natural_or_0}
use Rattle.wat_read_tokens.specs.declared.numbers.Between.{Between}
use Rattle.wat_read_tokens.specs.declared.numbers.Between.TheVariants.{Naturals, Words32, Words64}

abbrev pub low_of : Between → ℤ
low_of Naturals = pos 0
low_of Words32 = neg_ℤ (pos (2 ^ 31))
low_of Words64 = neg_ℤ (pos (2 ^ 63))

-- what a number of the range is below
abbrev pub high_of : Between → ℤ
high_of Naturals = pos (2 ^ 32)
high_of Words32 = pos (2 ^ 32)
high_of Words64 = pos (2 ^ 64)

-- a natural number, or 2^64 - 1 where it is above that
abbrev pub capped : Option ℤ → ℕ
capped o = min (natural_or_0 o) (2 ^ 64 - 1)

-- no number with a minus sign is above 0, and none without one is below
abbrev pub HasSign : (negative : Bool) → Option ℤ → Type 0
HasSign true o = natural_or_0 o ≡ 0
HasSign false None = Unit {0}
HasSign false (Some z) = z ≡ pos (natural_or_0 (Some z))

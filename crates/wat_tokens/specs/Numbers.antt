-- Numbers of the code as those of the text form.
use Rattle.std.specs.Prelude.{◌≡◌, ◌+◌, ◌^◌, ◌<◌, Option, Some, None, ℤ, pos, negsuc}
use Rattle.wat_tokens.specs.declared.numbers.Number.{Number}
use Rattle.wat_tokens.specs.declared.numbers.Number.TheVariants.{Whole, Far}

-- it is further from 0 than 2^64
abbrev pub IsFar : ℤ → Type 0
IsFar (pos n) = 2 ^ 64 < n
IsFar (negsuc n) = 2 ^ 64 < n + 1

abbrev pub IsNumber : Number → ℤ → Type 0
IsNumber (Whole v) z = v ≡ z
IsNumber Far z = IsFar z

abbrev pub IsNumberOf : Option Number → Option ℤ → Type 0
IsNumberOf None o = o ≡ None
IsNumberOf (Some v) o = (z : ℤ) × (o ≡ Some z) × IsNumber v z

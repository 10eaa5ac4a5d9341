-- Natural numbers, as far as they are told exactly. Only private contracts name these.
use Rattle.std.specs.Prelude.{◌≡◌, ℕ, ◌^◌, ◌<◌, ◌≤◌, Bool, List, Option, Some, None, option_map}
use Rattle.wat_lang.specs.Tokens.{is_digit, is_hexadecimal_digit, value_in}
use Rattle.wat_lang.specs.Numbers.{digits_in}
use Rattle.wat_tokens.specs.declared.numbers.Base.{Base}
use Rattle.wat_tokens.specs.declared.numbers.Base.TheVariants.{Ten, Sixteen}

abbrev pub base_of : Base → ℕ
base_of Ten = 10
base_of Sixteen = 16

abbrev pub is_digit_of : Base → ℕ → Bool
is_digit_of Ten b = is_digit b
is_digit_of Sixteen b = is_hexadecimal_digit b

abbrev pub natural_in : Base → List ℕ → Option ℕ
natural_in base bs = option_map (value_in (base_of base) 0) (digits_in (is_digit_of base) bs)

-- the number n itself, or where it is above 2^64 one that is
pub record IsCapped (v n : ℕ) : Type 0 where
  pub near : v ≤ 2 ^ 64 → v ≡ n
  pub far : 2 ^ 64 < v → 2 ^ 64 < n

abbrev pub IsNatural : Option ℕ → Option ℕ → Type 0
IsNatural None o = o ≡ None
IsNatural (Some v) o = (n : ℕ) × (o ≡ Some n) × IsCapped v n

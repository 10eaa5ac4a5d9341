-- Numbers (section 5.2.2): LEB128. `IsUnsigned bits n xs ys` says that the bytes xs begin with a spelling of n, which the
-- bytes ys follow. A spelling may be padded, and its last byte has no bit beyond the width.
use Rattle.std.specs.Prelude.{ℕ, ◌+◌, ◌-◌, ◌*◌, ◌^◌, ◌<◌, ◌≤◌, List, ◌∷◌}

-- an unsigned number of so many bits
pub data IsUnsigned : (bits n : ℕ) (xs ys : List ℕ) → Type 0 where
  last_unsigned : {bits b : ℕ} {ys : List ℕ} → b < 2 ^ 7 → b < 2 ^ bits → IsUnsigned bits b (b ∷ ys) ys
  more_unsigned : {bits b high : ℕ} {xs ys : List ℕ} → 2 ^ 7 ≤ b → 7 < bits
      → IsUnsigned (bits - 7) high xs ys → IsUnsigned bits (2 ^ 7 * high + (b - 2 ^ 7)) (b ∷ xs) ys

-- A word of so many bits, spelled as the signed number that it stands for: the word n stands for n, and for n - 2 ^ bits
-- where it is 2 ^ (bits - 1) or more.
pub data IsInteger : (bits n : ℕ) (xs ys : List ℕ) → Type 0 where
  -- a byte below 2 ^ 6 stands for itself
  last_positive : {bits b : ℕ} {ys : List ℕ} → b < 2 ^ 6 → b < 2 ^ (bits - 1) → IsInteger bits b (b ∷ ys) ys
  -- a byte from 2 ^ 6 on stands for b - 2 ^ 7
  last_negative : {bits b : ℕ} {ys : List ℕ} → 2 ^ 6 ≤ b → b < 2 ^ 7 → 2 ^ 7 ≤ b + 2 ^ (bits - 1)
      → IsInteger bits (b + 2 ^ bits - 2 ^ 7) (b ∷ ys) ys
  more_integer : {bits b high : ℕ} {xs ys : List ℕ} → 2 ^ 7 ≤ b → 7 < bits
      → IsInteger (bits - 7) high xs ys → IsInteger bits (2 ^ 7 * high + (b - 2 ^ 7)) (b ∷ xs) ys

abbrev pub IsU32 : (n : ℕ) (xs ys : List ℕ) → Type 0
IsU32 = IsUnsigned 32

-- Numbers as bytes, the lowest byte first: ECMA-262 6th edition, 24.1.1.5 and 24.1.1.6, little-endian; WebAssembly Core 1.0, 4.3.1.
use Rattle.std.specs.Prelude.{ℕ, zero, suc, ◌<◌, ◌+◌, ◌-◌, ◌*◌, ◌/◌, ◌%◌, ◌^◌, List, [], ◌∷◌, ℤ, pos, ◌-ℤ◌, nat_lt, if◌then◌else◌, All}

-- each number is a byte
abbrev pub IsBytes : List ℕ → Type 0
IsBytes bytes = All (λ b. b < 256) bytes

-- the number that bytes stand for: b0 + 256 b1 + 256^2 b2 + ..
abbrev pub little_endian : List ℕ → ℕ
little_endian [] = 0
little_endian (b ∷ bs) = b + 256 * little_endian bs

-- the bytes of the word's low `8 * size` bits
abbrev pub bytes_of : ℕ → ℕ → List ℕ
bytes_of zero word = []
bytes_of (suc size) word = (word % 256) ∷ bytes_of size (word / 256)

-- the signed number of so many bits: the upper half stands for the negative numbers
abbrev pub signed_reading : ℕ → ℕ → ℤ
signed_reading bits n = if nat_lt n (2 ^ (bits - 1)) then pos n else (pos n -ℤ pos (2 ^ bits))

-- Which bytes are opcodes of operators.
use Rattle.std.specs.Prelude.{ℕ, Bool, ◌&&◌, ◌||◌, nat_le}

abbrev pub is_within : (least most : ℕ) → ℕ → Bool
is_within least most byte = nat_le least byte && nat_le byte most

-- comparisons of 32 and of 64 bits, and the other operators of both widths
abbrev pub is_operator : ℕ → Bool
is_operator byte = is_within 0x46 0x4f byte || is_within 0x51 0x5a byte || is_within 0x67 0x8a byte

-- loads and stores
abbrev pub is_load : ℕ → Bool
is_load byte = is_within 0x28 0x29 byte || is_within 0x2c 0x35 byte

abbrev pub is_store : ℕ → Bool
is_store byte = is_within 0x36 0x37 byte || is_within 0x3a 0x3e byte

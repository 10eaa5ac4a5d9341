-- Machine words and the operators on them (WebAssembly Core 1.0, section 4.3.2).
-- A word of n bits is a number below 2 ^ n, and n is 32 or 64. `/` rounds down, and `%` is its remainder.
use Rattle.std.specs.Prelude.{ℕ, zero, suc, ◌+◌, ◌-◌, ◌*◌, ◌/◌, ◌%◌, ◌^◌, ◌<◌, Bool, not, ◌&&◌, if◌then◌else◌, ◌==◌, nat_lt, nat_le, ℤ, pos, negsuc, ◌-ℤ◌, int_lt, int_le, int_div, int_rem, bit_and, bit_or, bit_xor, Result, Ok, Err}
use Rattle.std.specs.Int.{int_shr}
use Rattle.sem_words.specs.declared.word.Bin.{Bin}
use Rattle.sem_words.specs.declared.word.Bin.TheVariants.{Add, Sub, Mul, DivS, DivU, RemS, RemU, And, Or, Xor, Shl, ShrS, ShrU, Rotl, Rotr}
use Rattle.sem_words.specs.declared.word.Un.{Un}
use Rattle.sem_words.specs.declared.word.Un.TheVariants.{Clz, Ctz, Popcnt}
use Rattle.sem_words.specs.declared.word.Rel.{Rel}
use Rattle.sem_words.specs.declared.word.Rel.TheVariants.{Eq, Ne, LtS, LtU, GtS, GtU, LeS, LeU, GeS, GeU}
use Rattle.sem_words.specs.declared.word.TrapKind.{TrapKind}
use Rattle.sem_words.specs.declared.word.TrapKind.TheVariants.{Unreachable, Memory, ZeroDivisor, Overflow, TableEntry, OtherType, Segment}

-- a is a word of n bits
abbrev pub IsWord : ℕ → ℕ → Type 0
IsWord n a = a < 2 ^ n

-- ---- signed readings ("Sign Interpretation")

-- the signed reading of a word: the upper half of the words stands for the negative numbers
abbrev pub signed_of : ℕ → ℕ → ℤ
signed_of n a = if nat_lt a (2 ^ (n - 1)) then pos a else pos a -ℤ pos (2 ^ n)

-- the word that a whole number leaves modulo 2 ^ n; `negsuc m` is -(m + 1)
abbrev pub word_of : ℕ → ℤ → ℕ
word_of n (pos m) = m % 2 ^ n
word_of n (negsuc m) = 2 ^ n - 1 - m % 2 ^ n

-- ---- `iadd`, `isub`, `imul`, `idiv_u`, `irem_u`, `idiv_s`, `irem_s`

abbrev pub add_of : ℕ → ℕ → ℕ → ℕ
add_of n a b = (a + b) % 2 ^ n

abbrev pub sub_of : ℕ → ℕ → ℕ → ℕ
sub_of n a b = (a + (2 ^ n - b)) % 2 ^ n

abbrev pub mul_of : ℕ → ℕ → ℕ → ℕ
mul_of n a b = a * b % 2 ^ n

abbrev pub div_u_of : ℕ → ℕ → Result ℕ TrapKind
div_u_of a b = if b == 0 then Err ZeroDivisor else Ok (a / b)

abbrev pub rem_u_of : ℕ → ℕ → Result ℕ TrapKind
rem_u_of a b = if b == 0 then Err ZeroDivisor else Ok (a % b)

-- the least number, -2 ^ (n - 1), by -1 is the one quotient that is no signed reading
abbrev pub is_least_by_minus_one : ℕ → ℕ → ℕ → Bool
is_least_by_minus_one n a b = (a == 2 ^ (n - 1)) && (b == 2 ^ n - 1)

-- the quotient of the signed readings, rounded toward zero
abbrev pub div_s_of : ℕ → ℕ → ℕ → Result ℕ TrapKind
div_s_of n a b =
    if b == 0 then Err ZeroDivisor
    else (if is_least_by_minus_one n a b then Err Overflow
    else Ok (word_of n (int_div (signed_of n a) (signed_of n b))))

-- the remainder of that quotient: it has the dividend's sign
abbrev pub rem_s_of : ℕ → ℕ → ℕ → Result ℕ TrapKind
rem_s_of n a b = if b == 0 then Err ZeroDivisor else Ok (word_of n (int_rem (signed_of n a) (signed_of n b)))

-- ---- `ishl`, `ishr_u`, `ishr_s`, `irotl`, `irotr`: the count is taken modulo n

abbrev pub shl_of : ℕ → ℕ → ℕ → ℕ
shl_of n a b = a * 2 ^ (b % n) % 2 ^ n

abbrev pub shr_u_of : ℕ → ℕ → ℕ → ℕ
shr_u_of n a b = a / 2 ^ (b % n)

-- the signed reading divided by 2 ^ (b % n), rounded down
abbrev pub shr_s_of : ℕ → ℕ → ℕ → ℕ
shr_s_of n a b = word_of n (int_shr (signed_of n a) (b % n))

-- what is left in the word, and what left it at the other end
abbrev pub rotl_of : ℕ → ℕ → ℕ → ℕ
rotl_of n a b = a * 2 ^ (b % n) % 2 ^ n + a / 2 ^ (n - b % n)

abbrev pub rotr_of : ℕ → ℕ → ℕ → ℕ
rotr_of n a b = a / 2 ^ (b % n) + a * 2 ^ (n - b % n) % 2 ^ n

-- ---- `iclz`, `ictz`, `ipopcnt`

-- how many of the k low bits stand above the highest that is set
unfoldable pub leading_zeros_of : ℕ → ℕ → ℕ
leading_zeros_of zero a = 0
leading_zeros_of (suc k) a = if nat_lt a (2 ^ k) then suc (leading_zeros_of k a) else 0

-- how many of the k low bits stand below the lowest that is set
unfoldable pub trailing_zeros_of : ℕ → ℕ → ℕ
trailing_zeros_of zero a = 0
trailing_zeros_of (suc k) a = if a % 2 == 0 then suc (trailing_zeros_of k (a / 2)) else 0

-- how many of the k low bits are set
unfoldable pub set_bits_of : ℕ → ℕ → ℕ
set_bits_of zero a = 0
set_bits_of (suc k) a = a % 2 + set_bits_of k (a / 2)

-- ---- the operators

-- two operands (`iand`, `ior` and `ixor` go bit by bit): a word, or a trap
abbrev pub bin_of : ℕ → Bin → ℕ → ℕ → Result ℕ TrapKind
bin_of n Add a b = Ok (add_of n a b)
bin_of n Sub a b = Ok (sub_of n a b)
bin_of n Mul a b = Ok (mul_of n a b)
bin_of n DivS a b = div_s_of n a b
bin_of n DivU a b = div_u_of a b
bin_of n RemS a b = rem_s_of n a b
bin_of n RemU a b = rem_u_of a b
bin_of n And a b = Ok (bit_and a b)
bin_of n Or a b = Ok (bit_or a b)
bin_of n Xor a b = Ok (bit_xor a b)
bin_of n Shl a b = Ok (shl_of n a b)
bin_of n ShrS a b = Ok (shr_s_of n a b)
bin_of n ShrU a b = Ok (shr_u_of n a b)
bin_of n Rotl a b = Ok (rotl_of n a b)
bin_of n Rotr a b = Ok (rotr_of n a b)

-- one operand
abbrev pub un_of : ℕ → Un → ℕ → ℕ
un_of n Clz a = leading_zeros_of n a
un_of n Ctz a = trailing_zeros_of n a
un_of n Popcnt a = set_bits_of n a

-- a comparison (`ieq`, `ine`, `ilt_s` and so on): of the numbers, or of their signed readings
abbrev pub rel_of : ℕ → Rel → ℕ → ℕ → Bool
rel_of n Eq a b = a == b
rel_of n Ne a b = not (a == b)
rel_of n LtS a b = int_lt (signed_of n a) (signed_of n b)
rel_of n LtU a b = nat_lt a b
rel_of n GtS a b = int_lt (signed_of n b) (signed_of n a)
rel_of n GtU a b = nat_lt b a
rel_of n LeS a b = int_le (signed_of n a) (signed_of n b)
rel_of n LeU a b = nat_le a b
rel_of n GeS a b = int_le (signed_of n b) (signed_of n a)
rel_of n GeU a b = nat_le b a

-- the word of n bits whose signed reading is that of the k low bits (WebAssembly Core 2.0, section 4.3.2, `iextendM_s`)
abbrev pub extend_of : ℕ → ℕ → ℕ → ℕ
extend_of n k a = word_of n (signed_of k (a % 2 ^ k))

-- ---- traps

-- the number of a trap, as it is printed
abbrev pub trap_code : TrapKind → ℕ
trap_code Unreachable = 1
trap_code Memory = 2
trap_code ZeroDivisor = 3
trap_code Overflow = 4
trap_code TableEntry = 5
trap_code OtherType = 6
trap_code Segment = 7

-- Examples of the operators on words, which the check computes.
use Rattle.std.proofs.Common.{◌≡◌, ◌+◌, ◌-◌, ◌*◌, ◌^◌, true, false, negsuc, pos, Ok, Err, refl}
use Rattle.sem_words.specs.Words.{signed_of, word_of, bin_of, un_of, rel_of, extend_of, leading_zeros_of, trailing_zeros_of, set_bits_of}
use Rattle.sem_words.specs.declared.word.Bin.TheVariants.{Add, Sub, Mul, DivS, DivU, RemS, RemU, And, Or, Xor, Shl, ShrS, ShrU, Rotl, Rotr}
use Rattle.sem_words.specs.declared.word.Un.TheVariants.{Clz, Ctz, Popcnt}
use Rattle.sem_words.specs.declared.word.Rel.TheVariants.{LtS, LtU, GeS, GeU}
use Rattle.sem_words.specs.declared.word.TrapKind.TheVariants.{ZeroDivisor, Overflow}

-- ---- readings

least_reading : signed_of 32 (2 ^ 31) ≡ negsuc (2 ^ 31 - 1)
least_reading = refl

greatest_reading : signed_of 32 (2 ^ 31 - 1) ≡ pos (2 ^ 31 - 1)
greatest_reading = refl

all_ones_are_minus_one : signed_of 64 (2 ^ 64 - 1) ≡ negsuc 0
all_ones_are_minus_one = refl

word_of_minus_one : word_of 32 (negsuc 0) ≡ 2 ^ 32 - 1
word_of_minus_one = refl

word_past_the_width : word_of 32 (negsuc (2 ^ 32)) ≡ 2 ^ 32 - 1
word_past_the_width = refl

-- ---- sums, products, quotients

sum_wraps : bin_of 32 Add (2 ^ 32 - 1) 1 ≡ Ok 0
sum_wraps = refl

difference_wraps : bin_of 64 Sub 0 1 ≡ Ok (2 ^ 64 - 1)
difference_wraps = refl

difference_of_equals : bin_of 32 Sub 5 5 ≡ Ok 0
difference_of_equals = refl

product_wraps : bin_of 32 Mul (2 ^ 31) 3 ≡ Ok (2 ^ 31)
product_wraps = refl

least_by_minus_one_32 : bin_of 32 DivS (2 ^ 31) (2 ^ 32 - 1) ≡ Err Overflow
least_by_minus_one_32 = refl

least_by_minus_one_64 : bin_of 64 DivS (2 ^ 63) (2 ^ 64 - 1) ≡ Err Overflow
least_by_minus_one_64 = refl

least_by_one : bin_of 32 DivS (2 ^ 31) 1 ≡ Ok (2 ^ 31)
least_by_one = refl

unsigned_quotient_by_all_ones : bin_of 32 DivU (2 ^ 31) (2 ^ 32 - 1) ≡ Ok 0
unsigned_quotient_by_all_ones = refl

least_rem_minus_one : bin_of 32 RemS (2 ^ 31) (2 ^ 32 - 1) ≡ Ok 0
least_rem_minus_one = refl

-- -7 / 2 is -3, and -7 % 2 is -1
quotient_toward_zero : bin_of 32 DivS (2 ^ 32 - 7) 2 ≡ Ok (2 ^ 32 - 3)
quotient_toward_zero = refl

remainder_of_negative : bin_of 32 RemS (2 ^ 32 - 7) 2 ≡ Ok (2 ^ 32 - 1)
remainder_of_negative = refl

-- 7 % -2 is 1
remainder_by_negative : bin_of 64 RemS 7 (2 ^ 64 - 2) ≡ Ok 1
remainder_by_negative = refl

by_zero_signed : bin_of 32 DivS 0 0 ≡ Err ZeroDivisor
by_zero_signed = refl

by_zero_unsigned : bin_of 64 RemU 7 0 ≡ Err ZeroDivisor
by_zero_unsigned = refl

-- ---- bits

bits_and : bin_of 32 And 12 10 ≡ Ok 8
bits_and = refl

bits_or : bin_of 32 Or 12 10 ≡ Ok 14
bits_or = refl

bits_xor : bin_of 32 Xor 12 10 ≡ Ok 6
bits_xor = refl

shl_by_31 : bin_of 32 Shl 3 31 ≡ Ok (2 ^ 31)
shl_by_31 = refl

shl_by_32 : bin_of 32 Shl 3 32 ≡ Ok 3
shl_by_32 = refl

shl_by_33 : bin_of 32 Shl 3 33 ≡ Ok 6
shl_by_33 = refl

wide_shl_by_33 : bin_of 64 Shl 3 33 ≡ Ok (3 * 2 ^ 33)
wide_shl_by_33 = refl

shr_u_by_31 : bin_of 32 ShrU (2 ^ 32 - 1) 31 ≡ Ok 1
shr_u_by_31 = refl

shr_s_by_31 : bin_of 32 ShrS (2 ^ 32 - 2) 31 ≡ Ok (2 ^ 32 - 1)
shr_s_by_31 = refl

-- -3 >> 1 is -2
shr_s_rounds_down : bin_of 32 ShrS (2 ^ 32 - 3) 33 ≡ Ok (2 ^ 32 - 2)
shr_s_rounds_down = refl

rotl_by_0 : bin_of 32 Rotl (2 ^ 31 + 1) 0 ≡ Ok (2 ^ 31 + 1)
rotl_by_0 = refl

rotl_by_width : bin_of 64 Rotl (2 ^ 63 + 1) 64 ≡ Ok (2 ^ 63 + 1)
rotl_by_width = refl

rotl_by_1 : bin_of 32 Rotl (2 ^ 31 + 1) 1 ≡ Ok 3
rotl_by_1 = refl

rotr_by_0 : bin_of 32 Rotr 5 0 ≡ Ok 5
rotr_by_0 = refl

rotr_by_1 : bin_of 32 Rotr 3 1 ≡ Ok (2 ^ 31 + 1)
rotr_by_1 = refl

clz_of_0 : un_of 32 Clz 0 ≡ 32
unfolding leading_zeros_of
clz_of_0 = refl

clz_of_1 : un_of 64 Clz 1 ≡ 63
unfolding leading_zeros_of
clz_of_1 = refl

clz_of_top : un_of 32 Clz (2 ^ 31) ≡ 0
unfolding leading_zeros_of
clz_of_top = refl

ctz_of_0 : un_of 64 Ctz 0 ≡ 64
unfolding trailing_zeros_of
ctz_of_0 = refl

ctz_of_12 : un_of 32 Ctz 12 ≡ 2
unfolding trailing_zeros_of
ctz_of_12 = refl

popcnt_of_all_ones : un_of 32 Popcnt (2 ^ 32 - 1) ≡ 32
unfolding set_bits_of
popcnt_of_all_ones = refl

popcnt_of_12 : un_of 64 Popcnt 12 ≡ 2
unfolding set_bits_of
popcnt_of_12 = refl

extends_negative : extend_of 32 8 128 ≡ 2 ^ 32 - 128
extends_negative = refl

extends_low_bits_alone : extend_of 64 32 (2 ^ 32) ≡ 0
extends_low_bits_alone = refl

-- ---- comparisons: -1 is below 0, and 2 ^ 32 - 1 isn't

signed_order : rel_of 32 LtS (2 ^ 32 - 1) 0 ≡ true
signed_order = refl

unsigned_order : rel_of 32 LtU (2 ^ 32 - 1) 0 ≡ false
unsigned_order = refl

signed_order_of_least : rel_of 64 GeS (2 ^ 63) (2 ^ 63 - 1) ≡ false
signed_order_of_least = refl

unsigned_order_of_half : rel_of 64 GeU (2 ^ 63) (2 ^ 63 - 1) ≡ true
unsigned_order_of_half = refl

-- Laws of words and their signed readings. `bits w32` is 32, and `bits w64` is 64.
use Rattle.std.proofs.Common.{◌≡◌, ℕ, ◌+◌, ◌-◌, ◌*◌, ◌/◌, ◌%◌, ◌^◌, ◌<◌, ◌≤◌, ℤ, pos, negsuc, neg_ℤ, ◌+ℤ◌, ◌-ℤ◌, ◌*ℤ◌, Bool, true, false, cond, Ok, Err, refl, sym, ap, ◌∙◌, arith}
use Rattle.std.specs.Prelude.{FitsSigned, unsigned_abs, int_div, int_rem, ◌==◌, IfOk}
use Rattle.std.specs.Int.{Width, w32, w64, cast_signed, cast_unsigned, int_wrap, int_rem_euclid, int_shr}
use mir.Val.{bits}
use Rattle.std.proofs.lemmas.Int.{ints, of_z-to_z, wrapping_add-bits, wrapping_sub-bits, wrapping_mul-bits, int_wrap-add_left, int_wrap-add_right, int_wrap-sub_right, int_wrap-mul_left, int_wrap-mul_right}
use Rattle.std.proofs.lemmas.Nat.{pow_pos, mod_below, and_le_l, or_lt, xor_lt, shr_le, leading_le, trailing_le, ones-le}
use Rattle.std.proofs.Math.Nat.{lt_of_le_of_lt, div-le_self, mod-le}
use Rattle.sem_words.specs.declared.word.Bin.{Bin}
use Rattle.sem_words.specs.declared.word.Bin.TheVariants.{Add, Sub, Mul, DivS, DivU, RemS, RemU, And, Or, Xor, Shl, ShrS, ShrU, Rotl, Rotr}
use Rattle.sem_words.specs.declared.word.Un.{Un}
use Rattle.sem_words.specs.declared.word.Un.TheVariants.{Clz, Ctz, Popcnt}
use Rattle.sem_words.specs.declared.word.TrapKind.{TrapKind}
use Rattle.sem_words.specs.declared.word.TrapKind.TheVariants.{ZeroDivisor, Overflow}
use Rattle.sem_words.specs.Words.{signed_of, word_of, add_of, sub_of, mul_of, div_s_of, is_least_by_minus_one, rotl_of, rotr_of, bin_of, un_of}
use Rattle.sem_words.proofs.Counts.{leading_zeros_is, trailing_zeros_is, set_bits_is}
use Rattle.sem_words.proofs.Rotations.{rotl_is, rotr_is}

-- what is left modulo 2 ^ n is a word
pub word_of-IsWord : (n : ℕ) (z : ℤ) → word_of n z < 2 ^ n
word_of-IsWord n (pos m) = mod_below m (2 ^ n) (pow_pos n)
word_of-IsWord n (negsuc m) = let p = pow_pos n in omega arith

div_s_of-IsWord : (n a b : ℕ) → IfOk (div_s_of n a b) (λ r. r < 2 ^ n)
div_s_of-IsWord n a b = either (b == 0) (is_least_by_minus_one n a b)
  where
    q : ℕ
    q = word_of n (int_div (signed_of n a) (signed_of n b))

    either : (c d : Bool) → IfOk {E = TrapKind} (cond c (Err ZeroDivisor) (cond d (Err Overflow) (Ok q))) (λ r. r < 2 ^ n)
    either true d = tt
    either false true = tt
    either false false = word_of-IsWord n (int_div (signed_of n a) (signed_of n b))

-- an unsigned quotient or a remainder, where the divisor isn't 0
checked-IsWord : (n b r : ℕ) → r < 2 ^ n → IfOk {E = TrapKind} (cond (b == 0) (Err ZeroDivisor) (Ok r)) (λ r. r < 2 ^ n)
checked-IsWord n b r h = either (b == 0)
  where
    either : (c : Bool) → IfOk {E = TrapKind} (cond c (Err ZeroDivisor) (Ok r)) (λ r. r < 2 ^ n)
    either true = tt
    either false = h

rotl_of-IsWord : (n a b : ℕ) → 0 < n → a < 2 ^ n → rotl_of n a b < 2 ^ n
rotl_of-IsWord n a b p h =
    let k : b % n < n = mod_below b n p in
    let high = mod_below (a * 2 ^ (b % n)) (2 ^ n) (pow_pos n) in
    rw (← rotl_is n a (b % n) k h) (or_lt n _ _ high (lt_of_le_of_lt (shr_le a ((n - b % n) % n)) h))

rotr_of-IsWord : (n a b : ℕ) → 0 < n → a < 2 ^ n → rotr_of n a b < 2 ^ n
rotr_of-IsWord n a b p h =
    let k : b % n < n = mod_below b n p in
    let high = mod_below (a * 2 ^ ((n - b % n) % n)) (2 ^ n) (pow_pos n) in
    rw (← rotr_is n a (b % n) k h) (or_lt n _ _ (lt_of_le_of_lt (shr_le a (b % n)) h) high)

-- the operators on words give words
pub bin_of-IsWord : (n : ℕ) (op : Bin) (a b : ℕ) → 0 < n → a < 2 ^ n → b < 2 ^ n → IfOk (bin_of n op a b) (λ r. r < 2 ^ n)
bin_of-IsWord n Add a b p h k = mod_below (a + b) (2 ^ n) (pow_pos n)
bin_of-IsWord n Sub a b p h k = mod_below (a + (2 ^ n - b)) (2 ^ n) (pow_pos n)
bin_of-IsWord n Mul a b p h k = mod_below (a * b) (2 ^ n) (pow_pos n)
bin_of-IsWord n DivS a b p h k = div_s_of-IsWord n a b
bin_of-IsWord n DivU a b p h k = checked-IsWord n b (a / b) (lt_of_le_of_lt (div-le_self a b) h)
bin_of-IsWord n RemS a b p h k = checked-IsWord n b _ (word_of-IsWord n (int_rem (signed_of n a) (signed_of n b)))
bin_of-IsWord n RemU a b p h k = checked-IsWord n b (a % b) (lt_of_le_of_lt (mod-le a b) h)
bin_of-IsWord n And a b p h k = lt_of_le_of_lt (and_le_l a b) h
bin_of-IsWord n Or a b p h k = or_lt n a b h k
bin_of-IsWord n Xor a b p h k = xor_lt n a b h k
bin_of-IsWord n Shl a b p h k = mod_below (a * 2 ^ (b % n)) (2 ^ n) (pow_pos n)
bin_of-IsWord n ShrS a b p h k = word_of-IsWord n (int_shr (signed_of n a) (b % n))
bin_of-IsWord n ShrU a b p h k = lt_of_le_of_lt (shr_le a (b % n)) h
bin_of-IsWord n Rotl a b p h k = rotl_of-IsWord n a b p h
bin_of-IsWord n Rotr a b p h k = rotr_of-IsWord n a b p h

-- a count of bits is at most n
pub un_of-le : (n : ℕ) (op : Un) (a : ℕ) → a < 2 ^ n → un_of n op a ≤ n
un_of-le n Clz a h = rw (← leading_zeros_is n a h) (leading_le n a)
un_of-le n Ctz a h = rw (← trailing_zeros_is n a) (trailing_le n a)
un_of-le n Popcnt a h = rw (← set_bits_is n a h) (ones-le n a h)

-- ---- sums, differences and products may be taken of the words

as_remainder : (n : ℕ) (z : ℤ) → unsigned_abs (int_rem_euclid z (pos (2 ^ n))) ≡ word_of n z
as_remainder n (pos m) = refl
as_remainder n (negsuc m) = refl

wrap_is : (w : Width) (z : ℤ) → int_wrap w z ≡ cast_signed w (word_of (bits w) z)
unfolding int_wrap
wrap_is w z = ap (cast_signed w) (as_remainder (bits w) z)

word_is : (w : Width) (z : ℤ) → word_of (bits w) z ≡ cast_unsigned w (int_wrap w z)
word_is w z = sym (ap (cast_unsigned w) (wrap_is w z) ∙ of_z-to_z w (word_of (bits w) z) (word_of-IsWord (bits w) z))

pub word_of-add : (w : Width) (x y : ℤ) → word_of (bits w) (x +ℤ y) ≡ add_of (bits w) (word_of (bits w) x) (word_of (bits w) y)
word_of-add w x y =
    let a = word_of (bits w) x in
    let b = word_of (bits w) y in
    let low = mod_below (a + b) (2 ^ bits w) (pow_pos (bits w)) in
    let parts : int_wrap w (x +ℤ y) ≡ int_wrap w (cast_signed w a +ℤ cast_signed w b) =
    sym (int_wrap-add_left w x y) ∙ sym (int_wrap-add_right w (int_wrap w x) y) ∙ ap (λ (z : ℤ). int_wrap w (z +ℤ int_wrap w y)) (wrap_is w x) ∙ ap (λ (z : ℤ). int_wrap w (cast_signed w a +ℤ z)) (wrap_is w y) in
    let whole = parts ∙ sym (wrapping_add-bits w a b (word_of-IsWord (bits w) x) (word_of-IsWord (bits w) y)) in
    word_is w (x +ℤ y) ∙ ap (cast_unsigned w) whole ∙ of_z-to_z w ((a + b) % 2 ^ bits w) low

pub word_of-sub : (w : Width) (x y : ℤ) → word_of (bits w) (x -ℤ y) ≡ sub_of (bits w) (word_of (bits w) x) (word_of (bits w) y)
word_of-sub w x y =
    let a = word_of (bits w) x in
    let b = word_of (bits w) y in
    let low = mod_below (a + (2 ^ bits w - b)) (2 ^ bits w) (pow_pos (bits w)) in
    let parts : int_wrap w (x -ℤ y) ≡ int_wrap w (cast_signed w a -ℤ cast_signed w b) =
    sym (int_wrap-add_left w x (neg_ℤ y)) ∙ sym (int_wrap-sub_right w (int_wrap w x) y) ∙ ap (λ (z : ℤ). int_wrap w (z -ℤ int_wrap w y)) (wrap_is w x) ∙ ap (λ (z : ℤ). int_wrap w (cast_signed w a -ℤ z)) (wrap_is w y) in
    let whole = parts ∙ sym (wrapping_sub-bits w a b (word_of-IsWord (bits w) x) (word_of-IsWord (bits w) y)) in
    word_is w (x -ℤ y) ∙ ap (cast_unsigned w) whole ∙ of_z-to_z w ((a + (2 ^ bits w - b)) % 2 ^ bits w) low

pub word_of-mul : (w : Width) (x y : ℤ) → word_of (bits w) (x *ℤ y) ≡ mul_of (bits w) (word_of (bits w) x) (word_of (bits w) y)
word_of-mul w x y =
    let a = word_of (bits w) x in
    let b = word_of (bits w) y in
    let low = mod_below (a * b) (2 ^ bits w) (pow_pos (bits w)) in
    let parts : int_wrap w (x *ℤ y) ≡ int_wrap w (cast_signed w a *ℤ cast_signed w b) =
    sym (int_wrap-mul_left w x y) ∙ sym (int_wrap-mul_right w (int_wrap w x) y) ∙ ap (λ (z : ℤ). int_wrap w (z *ℤ int_wrap w y)) (wrap_is w x) ∙ ap (λ (z : ℤ). int_wrap w (cast_signed w a *ℤ z)) (wrap_is w y) in
    let whole = parts ∙ sym (wrapping_mul-bits w a b (word_of-IsWord (bits w) x) (word_of-IsWord (bits w) y)) in
    word_is w (x *ℤ y) ∙ ap (cast_unsigned w) whole ∙ of_z-to_z w (a * b % 2 ^ bits w) low

-- ---- there and back

pub word_of-signed_of_32 : (a : ℕ) → a < 2 ^ 32 → word_of 32 (signed_of 32 a) ≡ a
word_of-signed_of_32 a h = grind (arith, ints)

pub word_of-signed_of_64 : (a : ℕ) → a < 2 ^ 64 → word_of 64 (signed_of 64 a) ≡ a
word_of-signed_of_64 a h = grind (arith, ints)

pub signed_of-word_of_32 : (z : ℤ) → FitsSigned w32 z → signed_of 32 (word_of 32 z) ≡ z
signed_of-word_of_32 z h = grind (arith, ints)

pub signed_of-word_of_64 : (z : ℤ) → FitsSigned w64 z → signed_of 64 (word_of 64 z) ≡ z
signed_of-word_of_64 z h = grind (arith, ints)

pub signed_of-fits_32 : (a : ℕ) → a < 2 ^ 32 → FitsSigned w32 (signed_of 32 a)
signed_of-fits_32 a h = grind (arith, ints)

pub signed_of-fits_64 : (a : ℕ) → a < 2 ^ 64 → FitsSigned w64 (signed_of 64 a)
signed_of-fits_64 a h = grind (arith, ints)

-- JavaScript's operators on the values that integer code makes (ECMA-262, 6th edition). A result is None where an operand is
-- of no kind that the operator takes here, or where a whole result is past 2 ^ 53 in magnitude.
use Rattle.std.specs.Prelude.{ℕ, ◌-◌, ◌%◌, ◌^◌, Bool, true, false, not, ◌&&◌, ◌||◌, if◌then◌else◌, ◌==◌, ℤ, pos, negsuc, neg_ℤ, ◌+ℤ◌, ◌-ℤ◌, ◌*ℤ◌, int_lt, int_le, int_div, int_rem, unsigned_abs, nat_le, bit_and, bit_or, bit_xor, Option, Some, None, option_and_then, option_map}
use Rattle.std.specs.Int.{int_shr}
use Rattle.sem_words.specs.declared.js_value.JsValue.{JsValue}
use Rattle.sem_words.specs.declared.js_value.JsValue.TheVariants.{Whole, Frac, NegZero, NaN, PosInf, NegInf, Bool as Boolean, Undef}
use Rattle.sem_words.specs.declared.js_value.JsOp.{JsOp}
use Rattle.sem_words.specs.declared.js_value.JsOp.TheVariants.{Add, Sub, Mul, Div, Rem, Or, And, Xor, Shl, Sar, Shr, Lt, Le, Gt, Ge, Eq, Ne}
use Rattle.sem_words.specs.declared.js_value.JsUnary.{JsUnary}
use Rattle.sem_words.specs.declared.js_value.JsUnary.TheVariants.{Neg, BitNot, Not, Plus}
use Rattle.sem_words.specs.Words.{leading_zeros_of, mul_of, shl_of, shr_u_of, signed_of}
use Rattle.sem_words.specs.JsValues.{to_int32_of, to_uint32_of}

abbrev pub is_zero : ℤ → Bool
is_zero z = unsigned_abs z == 0

abbrev pub is_negative : ℤ → Bool
is_negative z = int_lt z (pos 0)

-- ---- kinds of operands

-- the number of a whole number or a boolean
abbrev pub whole_of : JsValue → Option ℤ
whole_of (Whole z) = Some z
whole_of (Boolean true) = Some (pos 1)
whole_of (Boolean false) = Some (pos 0)
whole_of (Frac a b) = None
whole_of NegZero = None
whole_of NaN = None
whole_of PosInf = None
whole_of NegInf = None
whole_of Undef = None

-- two whole numbers or booleans
abbrev pub wholes_of : JsValue → JsValue → Option (ℤ × ℤ)
wholes_of a b = option_and_then (λ x. option_map (λ y. (x, y)) (whole_of b)) (whole_of a)

abbrev pub is_signed : ℤ → Bool
is_signed z = int_le (negsuc (2 ^ 31 - 1)) z && int_lt z (pos (2 ^ 31))

abbrev pub is_unsigned : ℤ → Bool
is_unsigned z = int_le (pos 0) z && int_lt z (pos (2 ^ 32))

-- both are signed 32-bit numbers, or both are unsigned ones
abbrev pub are_alike : ℤ → ℤ → Bool
are_alike x y = (is_signed x && is_signed y) || (is_unsigned x && is_unsigned y)

-- two whole numbers of 32 bits, both signed or both unsigned
abbrev pub alike_of : JsValue → JsValue → Option (ℤ × ℤ)
alike_of (Whole x) (Whole y) = if are_alike x y then Some (x, y) else None
alike_of _ _ = None

-- ---- results

-- a whole number, where it and its neighbours are doubles
abbrev pub exact_of : ℤ → Option JsValue
exact_of z = if nat_le (unsigned_abs z) (2 ^ 53) then Some (Whole z) else None

-- a product (section 12.6.3.1): 0 times a negative number is -0
abbrev pub product_of : ℤ → ℤ → Option JsValue
product_of x y =
    if is_zero (x *ℤ y) && (is_negative x || is_negative y) then Some NegZero else exact_of (x *ℤ y)

-- x / 0 (section 12.6.3.2)
abbrev pub by_zero_of : ℤ → JsValue
by_zero_of x = if is_zero x then NaN else (if is_negative x then NegInf else PosInf)

-- a quotient that isn't whole, as a pair with a divisor above 0
abbrev pub fraction_of : ℤ → ℤ → JsValue
fraction_of x y = if is_negative y then Frac (neg_ℤ x) (neg_ℤ y) else Frac x y

-- a quotient that is whole: 0 by a negative number is -0
abbrev pub whole_quotient_of : ℤ → ℤ → JsValue
whole_quotient_of x y = if is_zero x && is_negative y then NegZero else Whole (int_div x y)

-- x / y (section 12.6.3.2)
abbrev pub quotient_of : ℤ → ℤ → JsValue
quotient_of x y =
    if is_zero y then by_zero_of x
    else (if is_zero (int_rem x y) then whole_quotient_of x y else fraction_of x y)

-- a remainder (section 12.6.3.3): it has the dividend's sign, so that of a negative dividend may be -0
abbrev pub remainder_of : ℤ → ℤ → JsValue
remainder_of x y =
    if is_zero y then NaN
    else (if is_zero (int_rem x y) && is_negative x then NegZero else Whole (int_rem x y))

-- a 32-bit word as a signed number, and as an unsigned one
abbrev pub signed_value : ℕ → JsValue
signed_value a = Whole (signed_of 32 a)

abbrev pub unsigned_value : ℕ → JsValue
unsigned_value a = Whole (pos a)

-- ---- the operators

abbrev pub js_binary_of : JsOp → JsValue → JsValue → Option JsValue
-- sections 12.7.5 and 12.6.3
js_binary_of Add a b = option_and_then (λ (x, y). exact_of (x +ℤ y)) (wholes_of a b)
js_binary_of Sub a b = option_and_then (λ (x, y). exact_of (x -ℤ y)) (wholes_of a b)
js_binary_of Mul a b = option_and_then (λ (x, y). product_of x y) (wholes_of a b)
js_binary_of Div a b = option_map (λ (x, y). quotient_of x y) (alike_of a b)
js_binary_of Rem a b = option_map (λ (x, y). remainder_of x y) (alike_of a b)
-- section 12.11.3: on the bits of ToInt32, which are those of ToUint32
js_binary_of Or a b = Some (signed_value (bit_or (to_uint32_of a) (to_uint32_of b)))
js_binary_of And a b = Some (signed_value (bit_and (to_uint32_of a) (to_uint32_of b)))
js_binary_of Xor a b = Some (signed_value (bit_xor (to_uint32_of a) (to_uint32_of b)))
-- sections 12.8.3, 12.8.4, 12.8.5: the low five bits of the count
js_binary_of Shl a b = Some (signed_value (shl_of 32 (to_uint32_of a) (to_uint32_of b)))
js_binary_of Sar a b = Some (Whole (int_shr (to_int32_of a) (to_uint32_of b % 32)))
js_binary_of Shr a b = Some (unsigned_value (shr_u_of 32 (to_uint32_of a) (to_uint32_of b)))
-- sections 12.9.3 and 12.10.3, by 7.2.11 and 7.2.12
js_binary_of Lt a b = option_map (λ (x, y). Boolean (int_lt x y)) (alike_of a b)
js_binary_of Le a b = option_map (λ (x, y). Boolean (int_le x y)) (alike_of a b)
js_binary_of Gt a b = option_map (λ (x, y). Boolean (int_lt y x)) (alike_of a b)
js_binary_of Ge a b = option_map (λ (x, y). Boolean (int_le y x)) (alike_of a b)
js_binary_of Eq a b = option_map (λ (x, y). Boolean (is_zero (x -ℤ y))) (alike_of a b)
js_binary_of Ne a b = option_map (λ (x, y). Boolean (not (is_zero (x -ℤ y)))) (alike_of a b)

-- section 12.5.10: -0 for 0
abbrev pub negated_of : ℤ → JsValue
negated_of x = if is_zero x then NegZero else Whole (neg_ℤ x)

abbrev pub js_unary_of : JsUnary → JsValue → Option JsValue
-- sections 12.5.10, 12.5.11 and 12.5.12
js_unary_of Neg a = option_map negated_of (whole_of a)
js_unary_of BitNot a = Some (signed_value (2 ^ 32 - 1 - to_uint32_of a))
js_unary_of Not a = option_map (λ x. Boolean (is_zero x)) (whole_of a)
-- section 12.5.9: `+` makes a double of what it is given, and no double is made here
js_unary_of Plus a = None

-- Math.imul (section 20.2.2.19), on whole numbers and booleans
abbrev pub js_imul_of : JsValue → JsValue → Option JsValue
js_imul_of a b = option_map (λ _. signed_value (mul_of 32 (to_uint32_of a) (to_uint32_of b))) (wholes_of a b)

-- Math.clz32 (section 20.2.2.11), on whole numbers and booleans
abbrev pub js_clz32_of : JsValue → Option JsValue
js_clz32_of a = option_map (λ _. unsigned_value (leading_zeros_of 32 (to_uint32_of a))) (whole_of a)

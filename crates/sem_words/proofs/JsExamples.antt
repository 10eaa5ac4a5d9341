-- Examples of JavaScript's conversions and operators, which the check computes.
use Rattle.std.proofs.Common.{◌≡◌, ◌+◌, ◌-◌, ◌^◌, true, false, negsuc, pos, Some, None, refl}
use Rattle.sem_words.specs.Words.{leading_zeros_of}
use Rattle.sem_words.specs.JsValues.{to_int32_of, to_uint32_of, truthy_of}
use Rattle.sem_words.specs.JsOperators.{js_binary_of, js_unary_of, js_imul_of, js_clz32_of}
use Rattle.sem_words.specs.declared.js_value.JsValue.TheVariants.{Whole, Frac, NegZero, NaN, PosInf, NegInf, Bool as Boolean, Undef}
use Rattle.sem_words.specs.declared.js_value.JsOp.TheVariants.{Add, Sub, Mul, Div, Rem, Or, And, Xor, Shl, Sar, Shr, Lt, Gt, Ge, Eq, Ne}
use Rattle.sem_words.specs.declared.js_value.JsUnary.TheVariants.{Neg, BitNot, Not, Plus}

-- ---- conversions

whole_past_31_bits : to_int32_of (Whole (pos (2 ^ 31))) ≡ negsuc (2 ^ 31 - 1)
whole_past_31_bits = refl

whole_past_32_bits : to_uint32_of (Whole (pos (2 ^ 53))) ≡ 0
whole_past_32_bits = refl

minus_one_unsigned : to_uint32_of (Whole (negsuc 0)) ≡ 2 ^ 32 - 1
minus_one_unsigned = refl

-- 7 / 2 is cut to 3, and -7 / 2 to -3
fraction_is_cut : to_int32_of (Frac (pos 7) (pos 2)) ≡ pos 3
fraction_is_cut = refl

negative_fraction_is_cut : to_int32_of (Frac (negsuc 6) (pos 2)) ≡ negsuc 2
negative_fraction_is_cut = refl

-- (2 ^ 32 - 1) / 2 is cut to 2 ^ 31 - 1; a quotient by 1 is whole, so none of a pair is past it
fraction_near_31_bits : to_int32_of (Frac (pos (2 ^ 32 - 1)) (pos 2)) ≡ pos (2 ^ 31 - 1)
fraction_near_31_bits = refl

dividend_below_half : to_int32_of (Frac (pos (2 ^ 31 - 1)) (pos 2)) ≡ pos (2 ^ 30 - 1)
dividend_below_half = refl

dividend_above_half : to_int32_of (Frac (pos (2 ^ 31 + 1)) (pos 2)) ≡ pos (2 ^ 30)
dividend_above_half = refl

negative_zero_is_0 : to_int32_of NegZero ≡ pos 0
negative_zero_is_0 = refl

no_number_is_0 : to_uint32_of NaN ≡ 0
no_number_is_0 = refl

infinity_is_0 : to_uint32_of PosInf ≡ 0
infinity_is_0 = refl

negative_infinity_is_0 : to_uint32_of NegInf ≡ 0
negative_infinity_is_0 = refl

undefined_is_0 : to_int32_of Undef ≡ pos 0
undefined_is_0 = refl

true_is_1 : to_int32_of (Boolean true) ≡ pos 1
true_is_1 = refl

false_is_0 : to_uint32_of (Boolean false) ≡ 0
false_is_0 = refl

negative_zero_is_false : truthy_of NegZero ≡ false
negative_zero_is_false = refl

no_number_is_false : truthy_of NaN ≡ false
no_number_is_false = refl

fraction_is_true : truthy_of (Frac (pos 1) (pos 2)) ≡ true
fraction_is_true = refl

-- ---- arithmetic

sum_with_boolean : js_binary_of Add (Boolean true) (Whole (pos 2)) ≡ Some (Whole (pos 3))
sum_with_boolean = refl

sum_at_the_edge : js_binary_of Add (Whole (pos (2 ^ 53 - 1))) (Whole (pos 1)) ≡ Some (Whole (pos (2 ^ 53)))
sum_at_the_edge = refl

sum_past_the_edge : js_binary_of Add (Whole (pos (2 ^ 53))) (Whole (pos 1)) ≡ None
sum_past_the_edge = refl

difference_past_the_edge : js_binary_of Sub (Whole (negsuc (2 ^ 53 - 1))) (Boolean true) ≡ None
difference_past_the_edge = refl

sum_takes_no_negative_zero : js_binary_of Add NegZero (Whole (pos 1)) ≡ None
sum_takes_no_negative_zero = refl

zero_by_negative : js_binary_of Mul (Whole (pos 0)) (Whole (negsuc 4)) ≡ Some NegZero
zero_by_negative = refl

zero_by_zero_product : js_binary_of Mul (Whole (pos 0)) (Boolean false) ≡ Some (Whole (pos 0))
zero_by_zero_product = refl

half : js_binary_of Div (Whole (pos 1)) (Whole (pos 2)) ≡ Some (Frac (pos 1) (pos 2))
half = refl

half_by_negative : js_binary_of Div (Whole (pos 1)) (Whole (negsuc 1)) ≡ Some (Frac (negsuc 0) (pos 2))
half_by_negative = refl

not_reduced : js_binary_of Div (Whole (pos 2)) (Whole (pos 4)) ≡ Some (Frac (pos 2) (pos 4))
not_reduced = refl

least_by_minus_one : js_binary_of Div (Whole (negsuc (2 ^ 31 - 1))) (Whole (negsuc 0)) ≡ Some (Whole (pos (2 ^ 31)))
least_by_minus_one = refl

zero_by_zero : js_binary_of Div (Whole (pos 0)) (Whole (pos 0)) ≡ Some NaN
zero_by_zero = refl

one_by_zero : js_binary_of Div (Whole (pos 1)) (Whole (pos 0)) ≡ Some PosInf
one_by_zero = refl

minus_one_by_zero : js_binary_of Div (Whole (negsuc 0)) (Whole (pos 0)) ≡ Some NegInf
minus_one_by_zero = refl

zero_by_minus_two : js_binary_of Div (Whole (pos 0)) (Whole (negsuc 1)) ≡ Some NegZero
zero_by_minus_two = refl

-- one signed number below 0 and one past the signed ones
quotient_of_unlike : js_binary_of Div (Whole (negsuc 0)) (Whole (pos (2 ^ 31))) ≡ None
quotient_of_unlike = refl

quotient_of_unsigned : js_binary_of Div (Whole (pos (2 ^ 32 - 1))) (Whole (pos (2 ^ 31))) ≡ Some (Frac (pos (2 ^ 32 - 1)) (pos (2 ^ 31)))
quotient_of_unsigned = refl

quotient_takes_no_boolean : js_binary_of Div (Boolean true) (Whole (pos 1)) ≡ None
quotient_takes_no_boolean = refl

least_rem_minus_one : js_binary_of Rem (Whole (negsuc (2 ^ 31 - 1))) (Whole (negsuc 0)) ≡ Some NegZero
least_rem_minus_one = refl

remainder_of_negative : js_binary_of Rem (Whole (negsuc 6)) (Whole (pos 2)) ≡ Some (Whole (negsuc 0))
remainder_of_negative = refl

remainder_by_negative : js_binary_of Rem (Whole (pos 7)) (Whole (negsuc 1)) ≡ Some (Whole (pos 1))
remainder_by_negative = refl

remainder_by_zero : js_binary_of Rem (Whole (pos 7)) (Whole (pos 0)) ≡ Some NaN
remainder_by_zero = refl

-- ---- bits

or_of_undefined : js_binary_of Or Undef (Whole (pos (2 ^ 32 - 1))) ≡ Some (Whole (negsuc 0))
or_of_undefined = refl

xor_of_infinity : js_binary_of Xor PosInf (Boolean true) ≡ Some (Whole (pos 1))
xor_of_infinity = refl

and_of_fraction : js_binary_of And (Frac (negsuc 6) (pos 2)) (Whole (negsuc 0)) ≡ Some (Whole (negsuc 2))
and_of_fraction = refl

shl_by_31 : js_binary_of Shl (Whole (pos 1)) (Whole (pos 31)) ≡ Some (Whole (negsuc (2 ^ 31 - 1)))
shl_by_31 = refl

shl_by_32 : js_binary_of Shl (Whole (pos 1)) (Whole (pos 32)) ≡ Some (Whole (pos 1))
shl_by_32 = refl

shl_by_33 : js_binary_of Shl (Whole (pos 1)) (Whole (pos 33)) ≡ Some (Whole (pos 2))
shl_by_33 = refl

sar_rounds_down : js_binary_of Sar (Whole (negsuc 2)) (Whole (pos 1)) ≡ Some (Whole (negsuc 1))
sar_rounds_down = refl

shr_of_minus_one : js_binary_of Shr (Whole (negsuc 0)) NaN ≡ Some (Whole (pos (2 ^ 32 - 1)))
shr_of_minus_one = refl

-- ---- comparisons

minus_one_below_zero : js_binary_of Lt (Whole (negsuc 0)) (Whole (pos 0)) ≡ Some (Boolean true)
minus_one_below_zero = refl

equal_numbers : js_binary_of Eq (Whole (negsuc 4)) (Whole (negsuc 4)) ≡ Some (Boolean true)
equal_numbers = refl

unequal_numbers : js_binary_of Ne (Whole (negsuc 4)) (Whole (pos 5)) ≡ Some (Boolean true)
unequal_numbers = refl

order_of_unlike : js_binary_of Ge (Whole (pos (2 ^ 31))) (Whole (negsuc 0)) ≡ None
order_of_unlike = refl

order_takes_no_boolean : js_binary_of Gt (Boolean true) (Whole (pos 0)) ≡ None
order_takes_no_boolean = refl

-- ---- prefix operators and functions

minus_of_0 : js_unary_of Neg (Whole (pos 0)) ≡ Some NegZero
minus_of_0 = refl

minus_of_false : js_unary_of Neg (Boolean false) ≡ Some NegZero
minus_of_false = refl

minus_of_least : js_unary_of Neg (Whole (negsuc (2 ^ 31 - 1))) ≡ Some (Whole (pos (2 ^ 31)))
minus_of_least = refl

complement_of_undefined : js_unary_of BitNot Undef ≡ Some (Whole (negsuc 0))
complement_of_undefined = refl

not_of_0 : js_unary_of Not (Whole (pos 0)) ≡ Some (Boolean true)
not_of_0 = refl

plus_takes_nothing : js_unary_of Plus (Whole (pos 1)) ≡ None
plus_takes_nothing = refl

imul_wraps : js_imul_of (Whole (negsuc 0)) (Whole (pos 5)) ≡ Some (Whole (negsuc 4))
imul_wraps = refl

imul_takes_no_fraction : js_imul_of (Whole (pos 1)) (Frac (pos 1) (pos 2)) ≡ None
imul_takes_no_fraction = refl

clz32_of_true : js_clz32_of (Boolean true) ≡ Some (Whole (pos 31))
unfolding leading_zeros_of
clz32_of_true = refl

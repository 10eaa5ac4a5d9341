-- Examples of the order, the rows and the values of a type, which the check computes.
use Rattle.std.proofs.Common.{◌≡◌, ◌-◌, ◌^◌, true, false, negsuc, pos, Some, None, refl}
use Rattle.sem_words.specs.declared.js_value.JsValue.TheVariants.{Whole, Frac, NegZero, Bool as Boolean, Undef}
use Rattle.sem_words.specs.declared.js_value.JsOp.TheVariants.{Add, Mul, Div, Rem, Or, Shr, Lt, Eq}
use Rattle.sem_words.specs.declared.js_value.JsUnary.TheVariants.{Neg, BitNot, Not, Plus}
use Rattle.asm_types.specs.declared.value_type.ValueType.TheVariants.{Fixnum, Signed, Unsigned, Int, Intish, Extern, Void}
use Rattle.asm_types.specs.Types.{is_below}
use Rattle.asm_types.specs.Rows.{binary_row_of, unary_row_of}
use Rattle.asm_types.specs.Values.{fits_of}

-- ---- the order

fixnum_is_extern : is_below Fixnum Extern ≡ true
fixnum_is_extern = refl

unsigned_is_no_extern : is_below Unsigned Extern ≡ false
unsigned_is_no_extern = refl

int_is_no_signed : is_below Int Signed ≡ false
int_is_no_signed = refl

void_is_no_intish : is_below Void Intish ≡ false
void_is_no_intish = refl

-- ---- the rows

fixnum_by_signed : binary_row_of Div Fixnum Signed ≡ Some Intish
fixnum_by_signed = refl

fixnum_by_unsigned : binary_row_of Rem Fixnum Unsigned ≡ Some Intish
fixnum_by_unsigned = refl

signed_by_unsigned : binary_row_of Div Signed Unsigned ≡ None
signed_by_unsigned = refl

int_by_int : binary_row_of Div Int Int ≡ None
int_by_int = refl

sum_of_intish : binary_row_of Add Intish Int ≡ None
sum_of_intish = refl

sum_of_unlike : binary_row_of Add Signed Unsigned ≡ Some Intish
sum_of_unlike = refl

product_of_ints : binary_row_of Mul Int Fixnum ≡ Some Intish
product_of_ints = refl

bits_of_intish : binary_row_of Or Intish Fixnum ≡ Some Signed
bits_of_intish = refl

bits_of_extern : binary_row_of Or Extern Fixnum ≡ None
bits_of_extern = refl

shift_to_unsigned : binary_row_of Shr Intish Intish ≡ Some Unsigned
shift_to_unsigned = refl

order_of_unsigned : binary_row_of Lt Unsigned Unsigned ≡ Some Int
order_of_unsigned = refl

order_of_ints : binary_row_of Eq Int Int ≡ None
order_of_ints = refl

minus_of_int : unary_row_of Neg Int ≡ Some Intish
minus_of_int = refl

minus_of_intish : unary_row_of Neg Intish ≡ None
minus_of_intish = refl

complement_of_intish : unary_row_of BitNot Intish ≡ Some Signed
complement_of_intish = refl

not_of_int : unary_row_of Not Int ≡ Some Int
not_of_int = refl

plus_of_signed : unary_row_of Plus Signed ≡ None
plus_of_signed = refl

-- ---- values

greatest_fixnum : fits_of Fixnum (Whole (pos (2 ^ 31 - 1))) ≡ true
greatest_fixnum = refl

past_fixnum : fits_of Fixnum (Whole (pos (2 ^ 31))) ≡ false
past_fixnum = refl

least_signed : fits_of Signed (Whole (negsuc (2 ^ 31 - 1))) ≡ true
least_signed = refl

below_signed : fits_of Extern (Whole (negsuc (2 ^ 31))) ≡ false
below_signed = refl

negative_unsigned : fits_of Unsigned (Whole (negsuc 0)) ≡ false
negative_unsigned = refl

greatest_int : fits_of Int (Whole (pos (2 ^ 32 - 1))) ≡ true
greatest_int = refl

past_int : fits_of Int (Whole (pos (2 ^ 32))) ≡ false
past_int = refl

boolean_is_int : fits_of Int (Boolean true) ≡ true
boolean_is_int = refl

boolean_is_no_signed : fits_of Signed (Boolean true) ≡ false
boolean_is_no_signed = refl

negative_zero_is_no_int : fits_of Int NegZero ≡ false
negative_zero_is_no_int = refl

undefined_is_intish : fits_of Intish Undef ≡ true
undefined_is_intish = refl

fraction_is_intish : fits_of Intish (Frac (pos 1) (pos 2)) ≡ true
fraction_is_intish = refl

void_has_no_value : fits_of Void (Whole (pos 0)) ≡ false
void_has_no_value = refl

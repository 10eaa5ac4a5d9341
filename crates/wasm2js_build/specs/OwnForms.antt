-- What the expression of a term is by itself, and what is written where a type is asked for.
use Rattle.std.specs.Prelude.{Bool, true, false}
use Rattle.asm_lang.specs.Modules.{Expr}
use Rattle.wasm2js_translation.specs.Words.{BitOp, shift_right, Term, read, number, both, flip, sum, product, zeros, compare, choose, byte, whole, signed_number, plain_number, as_signed, as_unsigned}
use Rattle.wasm2js_build.specs.declared.forms.Form.{Form}
use Rattle.wasm2js_build.specs.declared.forms.Form.TheVariants as forms

abbrev pub bits_form : BitOp → Form
bits_form shift_right = forms.Unsigned
bits_form op = forms.Signed

abbrev pub form_of : Term → Form
form_of (read n) = forms.Int
form_of (number z) = forms.Literal z
form_of (both op a b) = bits_form op
form_of (flip a) = forms.Signed
form_of (sum a ts) = forms.Intish
form_of (product a b) = forms.Signed
form_of (zeros a) = forms.Fixnum
form_of (compare signed r a b) = forms.Truth
form_of (choose t a b) = forms.Int
form_of (byte signed at) = forms.Intish
form_of (whole at) = forms.Intish

abbrev pub signed_by : Form → Expr → Expr
signed_by forms.Signed e = e
signed_by forms.Fixnum e = e
signed_by (forms.Literal z) e = as_signed (number z) e
signed_by f e = signed_number e

abbrev pub unsigned_by : Form → Expr → Expr
unsigned_by forms.Unsigned e = e
unsigned_by forms.Fixnum e = e
unsigned_by (forms.Literal z) e = as_unsigned (number z) e
unsigned_by f e = plain_number e

abbrev pub number_by : Bool → Form → Expr → Expr
number_by true f e = signed_by f e
number_by false f e = unsigned_by f e

abbrev pub int_by : Form → Expr → Expr
int_by forms.Intish e = signed_number e
int_by f e = e

abbrev pub test_by : Form → Expr → Expr
test_by forms.Int e = signed_number e
test_by forms.Intish e = signed_number e
test_by (forms.Literal z) e = signed_number e
test_by f e = e

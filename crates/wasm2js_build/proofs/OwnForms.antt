-- By the form of its expression a term is written as its definition says.
use Rattle.std.proofs.Common.{◌≡◌, Bool, true, false, refl}
use Rattle.asm_lang.specs.Modules.{Expr}
use Rattle.wasm2js_translation.specs.Words.{conjunction, disjunction, exclusion, shift_left, shift_right_signed, shift_right, Term, read, number, both, flip, sum, product, zeros, compare, choose, byte, whole, as_number, as_int, as_test}
use Rattle.wasm2js_build.specs.OwnForms.{form_of, number_by, int_by, test_by}

pub number_is : (signed : Bool) (t : Term) (e : Expr) → number_by signed (form_of t) e ≡ as_number signed t e
number_is true (read n) e = refl
number_is true (number z) e = refl
number_is true (both conjunction a b) e = refl
number_is true (both disjunction a b) e = refl
number_is true (both exclusion a b) e = refl
number_is true (both shift_left a b) e = refl
number_is true (both shift_right_signed a b) e = refl
number_is true (both shift_right a b) e = refl
number_is true (flip a) e = refl
number_is true (sum a ts) e = refl
number_is true (product a b) e = refl
number_is true (zeros a) e = refl
number_is true (compare signed r a b) e = refl
number_is true (choose t a b) e = refl
number_is true (byte signed at) e = refl
number_is true (whole at) e = refl
number_is false (read n) e = refl
number_is false (number z) e = refl
number_is false (both conjunction a b) e = refl
number_is false (both disjunction a b) e = refl
number_is false (both exclusion a b) e = refl
number_is false (both shift_left a b) e = refl
number_is false (both shift_right_signed a b) e = refl
number_is false (both shift_right a b) e = refl
number_is false (flip a) e = refl
number_is false (sum a ts) e = refl
number_is false (product a b) e = refl
number_is false (zeros a) e = refl
number_is false (compare signed r a b) e = refl
number_is false (choose t a b) e = refl
number_is false (byte signed at) e = refl
number_is false (whole at) e = refl

pub int_is : (t : Term) (e : Expr) → int_by (form_of t) e ≡ as_int t e
int_is (read n) e = refl
int_is (number z) e = refl
int_is (both conjunction a b) e = refl
int_is (both disjunction a b) e = refl
int_is (both exclusion a b) e = refl
int_is (both shift_left a b) e = refl
int_is (both shift_right_signed a b) e = refl
int_is (both shift_right a b) e = refl
int_is (flip a) e = refl
int_is (sum a ts) e = refl
int_is (product a b) e = refl
int_is (zeros a) e = refl
int_is (compare signed r a b) e = refl
int_is (choose t a b) e = refl
int_is (byte signed at) e = refl
int_is (whole at) e = refl

pub test_is : (t : Term) (e : Expr) → test_by (form_of t) e ≡ as_test t e
test_is (read n) e = refl
test_is (number z) e = refl
test_is (both conjunction a b) e = refl
test_is (both disjunction a b) e = refl
test_is (both exclusion a b) e = refl
test_is (both shift_left a b) e = refl
test_is (both shift_right_signed a b) e = refl
test_is (both shift_right a b) e = refl
test_is (flip a) e = refl
test_is (sum a ts) e = refl
test_is (product a b) e = refl
test_is (zeros a) e = refl
test_is (compare signed r a b) e = refl
test_is (choose t a b) e = refl
test_is (byte signed at) e = refl
test_is (whole at) e = refl

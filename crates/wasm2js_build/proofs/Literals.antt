-- Which literals are signed, and which unsigned.
use Rattle.std.proofs.Common.{◌≡◌, ◌^◌, Bool, true, false, ◌&&◌, ◌||◌, Some, ℤ, pos, negsuc, refl, arith}
use Rattle.std.specs.Prelude.{nat_lt, int_lt, int_le, if◌then◌else◌}
use Rattle.std.proofs.lemmas.Bool.Decides.{nat_tests}
use Rattle.std.proofs.lemmas.Int.{ints}
use Rattle.asm_types.specs.declared.value_type.ValueType.TheVariants.{Fixnum, Signed, Unsigned}
use Rattle.asm_types.specs.Rows.{row}
use Rattle.asm_lang_valid.specs.Typing.{typed_below, literal_type}

signed_above : (a b : Bool) → typed_below Signed (if a then Some Fixnum else row b Unsigned) ≡ a
signed_above true b = refl
signed_above false true = refl
signed_above false false = refl

signed_below : (a : Bool) → typed_below Signed (row a Signed) ≡ a
signed_below true = refl
signed_below false = refl

pub is_signed : (z : ℤ) → typed_below Signed (literal_type z) ≡ (int_le (negsuc 2147483647) z && int_lt z (pos 2147483648))
is_signed (pos n) = let e = signed_above (nat_lt n (2 ^ 31)) (nat_lt n (2 ^ 32)) in grind (arith, ints, nat_tests, e)
is_signed (negsuc n) = let e = signed_below (nat_lt n (2 ^ 31)) in grind (arith, ints, nat_tests, e)

unsigned_above : (a b : Bool) → typed_below Unsigned (if a then Some Fixnum else row b Unsigned) ≡ (a || b)
unsigned_above true b = refl
unsigned_above false true = refl
unsigned_above false false = refl

unsigned_below : (a : Bool) → typed_below Unsigned (row a Signed) ≡ false
unsigned_below true = refl
unsigned_below false = refl

pub is_unsigned : (z : ℤ) → typed_below Unsigned (literal_type z) ≡ (int_le (pos 0) z && int_lt z (pos 4294967296))
is_unsigned (pos n) = let e = unsigned_above (nat_lt n (2 ^ 31)) (nat_lt n (2 ^ 32)) in grind (arith, ints, nat_tests, e)
is_unsigned (negsuc n) = let e = unsigned_below (nat_lt n (2 ^ 31)) in grind (arith, ints, nat_tests, e)

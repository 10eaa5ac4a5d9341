-- The test says what the rules of the order say.
use Rattle.std.proofs.Common.{Bool, true, false, T, refl}
use Rattle.std.proofs.lemmas.Bool.{false≢true}
use Rattle.std.specs.Prelude.{◌↔◌, IsTrue}
use Rattle.asm_types.specs.declared.value_type.ValueType.{ValueType}
use Rattle.asm_types.specs.declared.value_type.ValueType.TheVariants.{Fixnum, Signed, Unsigned, Int, Intish, Extern, Void}
use Rattle.asm_types.specs.Types.{IsBelow, fixnum_signed, fixnum_unsigned, signed_int, unsigned_int, int_intish, signed_extern, same, through, is_below}

sound : (a b : ValueType) → T (is_below a b) → IsBelow a b
sound Fixnum Fixnum h = same
sound Fixnum Signed h = fixnum_signed
sound Fixnum Unsigned h = fixnum_unsigned
sound Fixnum Int h = through fixnum_signed signed_int
sound Fixnum Intish h = through fixnum_signed (through signed_int int_intish)
sound Fixnum Extern h = through fixnum_signed signed_extern
sound Fixnum Void h = absurd h
sound Signed Signed h = same
sound Signed Int h = signed_int
sound Signed Intish h = through signed_int int_intish
sound Signed Extern h = signed_extern
sound Signed _ h = absurd h
sound Unsigned Unsigned h = same
sound Unsigned Int h = unsigned_int
sound Unsigned Intish h = through unsigned_int int_intish
sound Unsigned _ h = absurd h
sound Int Int h = same
sound Int Intish h = int_intish
sound Int _ h = absurd h
sound Intish Intish h = same
sound Intish _ h = absurd h
sound Extern Extern h = same
sound Extern _ h = absurd h
sound Void Void h = same
sound Void _ h = absurd h

refl_test : (a : ValueType) → T (is_below a a)
refl_test Fixnum = tt
refl_test Signed = tt
refl_test Unsigned = tt
refl_test Int = tt
refl_test Intish = tt
refl_test Extern = tt
refl_test Void = tt

trans_test : (a b c : ValueType) → T (is_below a b) → T (is_below b c) → T (is_below a c)
trans_test Fixnum Void c h k = absurd h
trans_test Fixnum _ Void h k = absurd k
trans_test Fixnum _ _ h k = tt
trans_test Signed Signed c h k = k
trans_test Signed Int Int h k = tt
trans_test Signed Int Intish h k = tt
trans_test Signed Int _ h k = absurd k
trans_test Signed Intish Intish h k = tt
trans_test Signed Intish _ h k = absurd k
trans_test Signed Extern Extern h k = tt
trans_test Signed Extern _ h k = absurd k
trans_test Signed _ c h k = absurd h
trans_test Unsigned Unsigned c h k = k
trans_test Unsigned Int Int h k = tt
trans_test Unsigned Int Intish h k = tt
trans_test Unsigned Int _ h k = absurd k
trans_test Unsigned Intish Intish h k = tt
trans_test Unsigned Intish _ h k = absurd k
trans_test Unsigned _ c h k = absurd h
trans_test Int Int c h k = k
trans_test Int Intish Intish h k = tt
trans_test Int Intish _ h k = absurd k
trans_test Int _ c h k = absurd h
trans_test Intish Intish c h k = k
trans_test Intish _ c h k = absurd h
trans_test Extern Extern c h k = k
trans_test Extern _ c h k = absurd h
trans_test Void Void c h k = k
trans_test Void _ c h k = absurd h

complete : (a b : ValueType) → IsBelow a b → T (is_below a b)
complete _ _ fixnum_signed = tt
complete _ _ fixnum_unsigned = tt
complete _ _ signed_int = tt
complete _ _ unsigned_int = tt
complete _ _ int_intish = tt
complete _ _ signed_extern = tt
complete a _ same = refl_test a
complete a c (through {b = b} p q) = trans_test a b c (complete a b p) (complete b c q)

in_test : (b : Bool) → IsTrue b → T b
in_test true h = tt
in_test false h = false≢true h

from_test : (b : Bool) → T b → IsTrue b
from_test true h = refl
from_test false h = absurd h

pub is_below_refl : (a : ValueType) → IsTrue (is_below a a)
is_below_refl a = from_test (is_below a a) (refl_test a)

pub is_below_trans : (a b c : ValueType) → IsTrue (is_below a b) → IsTrue (is_below b c) → IsTrue (is_below a c)
is_below_trans a b c h k =
    from_test (is_below a c) (trans_test a b c (in_test (is_below a b) h) (in_test (is_below b c) k))

pub is_below_iff : (a b : ValueType) → IsTrue (is_below a b) ↔ IsBelow a b
is_below_iff a b = (λ h. sound a b (in_test (is_below a b) h), λ p. from_test (is_below a b) (complete a b p))

-- The order of the types (asm.js draft of 18 August 2014, section 2.1).
use Rattle.std.specs.Prelude.{Bool, true, false}
use Rattle.asm_types.specs.declared.value_type.ValueType.{ValueType}
use Rattle.asm_types.specs.declared.value_type.ValueType.TheVariants.{Fixnum, Signed, Unsigned, Int, Intish, Extern, Void}

-- the arrows of the draft's picture, and what follows from them
pub data IsBelow : ValueType → ValueType → Type 0 where
  fixnum_signed : IsBelow Fixnum Signed
  fixnum_unsigned : IsBelow Fixnum Unsigned
  signed_int : IsBelow Signed Int
  unsigned_int : IsBelow Unsigned Int
  int_intish : IsBelow Int Intish
  signed_extern : IsBelow Signed Extern
  same : {a : ValueType} → IsBelow a a
  through : {a b c : ValueType} → IsBelow a b → IsBelow b c → IsBelow a c

-- the same as a test
abbrev pub is_below : ValueType → ValueType → Bool
is_below Fixnum Void = false
is_below Fixnum _ = true
is_below Signed Signed = true
is_below Signed Int = true
is_below Signed Intish = true
is_below Signed Extern = true
is_below Signed _ = false
is_below Unsigned Unsigned = true
is_below Unsigned Int = true
is_below Unsigned Intish = true
is_below Unsigned _ = false
is_below Int Int = true
is_below Int Intish = true
is_below Int _ = false
is_below Intish Intish = true
is_below Intish _ = false
is_below Extern Extern = true
is_below Extern _ = false
is_below Void Void = true
is_below Void _ = false

-- The values of a type: those that an expression of it may have.
use Rattle.std.specs.Prelude.{◌-◌, ◌^◌, Bool, true, false, ◌&&◌, ℤ, pos, negsuc, int_le, int_lt}
use Rattle.sem_words.specs.declared.js_value.JsValue.{JsValue}
use Rattle.sem_words.specs.declared.js_value.JsValue.TheVariants.{Whole, Bool as Boolean}
use Rattle.asm_types.specs.declared.value_type.ValueType.{ValueType}
use Rattle.asm_types.specs.declared.value_type.ValueType.TheVariants.{Fixnum, Signed, Unsigned, Int, Intish, Extern, Void}

-- low ≤ z < high
abbrev pub is_between : ℤ → ℤ → ℤ → Bool
is_between low high z = int_le low z && int_lt z high

-- -2 ^ 31, the least signed number
abbrev pub least : ℤ
least = negsuc (2 ^ 31 - 1)

abbrev pub fits_of : ValueType → JsValue → Bool
fits_of Fixnum (Whole z) = is_between (pos 0) (pos (2 ^ 31)) z
fits_of Fixnum _ = false
fits_of Signed (Whole z) = is_between least (pos (2 ^ 31)) z
fits_of Signed _ = false
fits_of Unsigned (Whole z) = is_between (pos 0) (pos (2 ^ 32)) z
fits_of Unsigned _ = false
-- a comparison and `!` give booleans
fits_of Int (Whole z) = is_between least (pos (2 ^ 32)) z
fits_of Int (Boolean b) = true
fits_of Int _ = false
fits_of Intish v = true
fits_of Extern (Whole z) = is_between least (pos (2 ^ 31)) z
fits_of Extern _ = false
fits_of Void v = false

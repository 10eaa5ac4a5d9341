-- What a module with one function of another one as its one export has of that one.
use Rattle.std.specs.Prelude.{◌≡◌, ℕ, ◌+◌, length, Some, slice_get}
use Rattle.asm_lang.specs.Heights.{IsWellFormed}
use Rattle.asm_lang.specs.Modules.{Function, Module}
use Rattle.asm_lang_valid.specs.LimitRows.{foreign_calls}
use Rattle.asm_lang_valid.specs.Refusal.{IsAccepted}
use Rattle.asm2wasm_translation.specs.Modules.{translation}
use Rattle.asm2wasm_lang.specs.Alone.{exporting, exporting_number}

abbrev pub ExportingIsAccepted : Type 0
ExportingIsAccepted = (m : Module) (i : ℕ) (f : Function) → IsAccepted m → slice_get m.functions i ≡ Some f → IsAccepted (exporting f m)

abbrev pub ExportingIsWellFormed : Type 0
ExportingIsWellFormed = (m : Module) (i : ℕ) (f : Function) → IsWellFormed m → slice_get m.functions i ≡ Some f → IsWellFormed (exporting f m)

-- its translation is that of the other one, with that function as its one export
abbrev pub ExportingIsTranslated : Type 0
ExportingIsTranslated =
    (m : Module) (size i : ℕ) (f : Function) → IsAccepted m → slice_get m.functions i ≡ Some f
    → translation (exporting f m) size ≡ exporting_number f.name (length (foreign_calls m) + i) (translation m size)

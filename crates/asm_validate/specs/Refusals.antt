-- What a refusal says.
use Rattle.std.specs.Prelude.{◌≡◌, Some}
use Rattle.asm_lang.specs.Modules.{Module}
use Rattle.asm_lang_valid.specs.Refusal.{refusal}
use Rattle.asm_validate_names.specs.declared.refusal.AsmRefusal.{AsmRefusal}
use Rattle.asm_validate_names.specs.declared.refusal.AsmRefusal.TheVariants.{Refused, Memory}

-- it is the module's refusal; want of memory says nothing of the module
abbrev pub IsRefused : Module → AsmRefusal → Type 0
IsRefused m (Refused r n) = refusal m ≡ Some (record { rule = r; node = n })
IsRefused m Memory = Unit {0}

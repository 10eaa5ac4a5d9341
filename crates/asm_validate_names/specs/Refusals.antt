-- What a refusal says of rows.
use Rattle.std.specs.Prelude.{◌≡◌, List, Some}
use Rattle.asm_lang_valid.specs.declared.rule.Met.{Met}
use Rattle.asm_lang_valid.specs.Rows.{first}
use Rattle.asm_validate_names.specs.declared.refusal.AsmRefusal.{AsmRefusal}
use Rattle.asm_validate_names.specs.declared.refusal.AsmRefusal.TheVariants.{Refused, Memory}

-- the refusal is the first of these rows; want of memory says nothing of them
abbrev pub IsRow : List Met → AsmRefusal → Type 0
IsRow rows (Refused r n) = first rows ≡ Some (record { rule = r; node = n })
IsRow rows Memory = Unit {0}

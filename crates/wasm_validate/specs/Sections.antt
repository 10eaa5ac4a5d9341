-- What is known of the items of a section.
use Rattle.std.specs.Prelude.{◌≡◌, ℕ, ◌<◌, Bool, true, false, Some, None}
use Rattle.wasm_lang.specs.Modules.{WasmModule}
use Rattle.wasm_lang_valid.specs.declared.section.Section.{Section}
use Rattle.wasm_lang_valid.specs.declared.section.Section.TheVariants as sections
use Rattle.wasm_lang_valid.specs.ModuleRules.{item_rule}
use Rattle.wasm_validate.specs.declared.fault.ItemFault.{ItemFault}
use Rattle.wasm_validate.specs.declared.fault.ItemFault.TheVariants.{Broken, Memory}

-- the rules of the section's items don't speak of the items before, but of their number
abbrev pub is_separate : Section → Bool
is_separate sections.Imports = false
is_separate sections.Exports = false
is_separate sections.Code = false
is_separate s = true

-- so many items of the section break no rule
abbrev pub FineItems : WasmModule → Section → ℕ → Type 0
FineItems m s n = (i : ℕ) → i < n → item_rule m s i ≡ None

-- want of memory, or the first item that breaks a rule, of so many
abbrev pub IsItemFault : WasmModule → Section → ℕ → ItemFault → Type 0
IsItemFault m s n (Broken index rule) = (index < n) × FineItems m s index × (item_rule m s index ≡ Some rule)
IsItemFault m s n Memory = Unit {0}

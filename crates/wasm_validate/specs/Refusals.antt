-- What a refusal of a module says.
use Rattle.std.specs.Prelude.{◌≡◌, ℕ, ◌<◌}
use Rattle.wasm_lang.specs.Modules.{WasmModule}
use Rattle.wasm_lang_valid.specs.declared.section.Section.{Section}
use Rattle.wasm_lang_valid.specs.declared.section.Section.TheVariants as sections
use Rattle.wasm_lang_valid.specs.Validity.{items, IsFine, BreaksAt, RefusesModule}
use Rattle.wasm_validate.specs.declared.fault.ItemFault.{ItemFault}
use Rattle.wasm_validate.specs.declared.fault.ItemFault.TheVariants as faults
use Rattle.wasm_validate.specs.declared.fault.CodeFault.{CodeFault}
use Rattle.wasm_validate.specs.declared.fault.CodeFault.TheVariants as codes
use Rattle.wasm_validate.specs.declared.fault.Invalid.{Invalid}
use Rattle.wasm_validate.specs.declared.fault.Invalid.TheVariants.{Rule, Memory}

-- want of memory, or the rule that is broken first and its place
abbrev pub IsInvalid : WasmModule → Invalid → Type 0
IsInvalid m (Rule rule section index instruction) = RefusesModule m rule section index instruction
IsInvalid m Memory = Unit {0}

-- .. in this section
abbrev pub IsSectionFault : WasmModule → Section → Invalid → Type 0
IsSectionFault m s (Rule rule section index instruction) = (section ≡ s) × (index < items m s) × ((i : ℕ) → i < index → IsFine m s i) × BreaksAt m s index rule instruction
IsSectionFault m s Memory = Unit {0}

abbrev pub in_section : Section → ItemFault → Invalid
in_section s (faults.Broken index rule) = Rule rule s index 0
in_section s faults.Memory = Memory

abbrev pub in_code : CodeFault → Invalid
in_code (codes.Broken index rule instruction) = Rule rule sections.Code index instruction
in_code codes.Memory = Memory

-- What a refusal of the code section says.
use Rattle.std.specs.Prelude.{ℕ, ◌<◌, length}
use Rattle.wasm_lang.specs.Modules.{WasmModule}
use Rattle.wasm_lang_valid.specs.declared.section.Section.TheVariants as sections
use Rattle.wasm_lang_valid.specs.Validity.{IsFine, BreaksAt}
use Rattle.wasm_validate_bodies.specs.declared.fault.BodyFault.{BodyFault}
use Rattle.wasm_validate_bodies.specs.declared.fault.BodyFault.TheVariants.{Broken, Memory}
use Rattle.wasm_validate.specs.declared.fault.CodeFault.{CodeFault}
use Rattle.wasm_validate.specs.declared.fault.CodeFault.TheVariants as codes

-- so many bodies are valid
abbrev pub FineBodies : WasmModule → ℕ → Type 0
FineBodies m n = (i : ℕ) → i < n → IsFine m sections.Code i

-- the fault of the body at this place
abbrev pub at_body : BodyFault → ℕ → CodeFault
at_body (Broken rule place) index = codes.Broken index rule place
at_body Memory index = codes.Memory

-- want of memory, or the first body that isn't valid
abbrev pub IsCodeFault : WasmModule → CodeFault → Type 0
IsCodeFault m (codes.Broken index rule place) = (index < length m.bodies) × FineBodies m index × BreaksAt m sections.Code index rule place
IsCodeFault m codes.Memory = Unit {0}

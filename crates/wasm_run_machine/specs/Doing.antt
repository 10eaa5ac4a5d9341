-- What an instruction's function promises.
use Rattle.std.specs.Prelude.{◌≡◌, ℕ, suc, List, Some, slice_get}
use Rattle.wasm_lang.specs.Instructions.{Instruction}
use Rattle.wasm_lang.specs.Modules.{WasmModule}
use Rattle.wasm_laws_drive.specs.Drive.{Outcome}
use Rattle.wasm_run_plain.specs.Forms.{IsForm}
use Rattle.wasm_laws_machine.specs.Machine.{MachinePlain}
use Rattle.wasm_laws_machine.specs.Meaning.{Runs}
use Rattle.wasm_run_frames.specs.declared.machine.Machine.{Machine}
use Rattle.wasm_run_frames.specs.declared.machine.Flow.{Flow}
use Rattle.wasm_run_frames.specs.Flows.{Comes}

-- the bodies of functions, by their numbers
abbrev pub Bodies : Type 0
Bodies = ℕ → List Instruction

-- the machine does the instruction at its place, whose reduction is paid, in this module and with these bodies
abbrev pub DoesIn : (ℕ → List Instruction) → WasmModule → List Instruction → Instruction → MachinePlain → Flow → Machine → Type 0
DoesIn bodies m body i old flow new =
    (n : ℕ) (r : Outcome) → bodies old.function ≡ body → slice_get body old.at ≡ Some i → Runs bodies m old (suc n) r → Comes bodies m flow new n r

-- each instruction of a body has a form that an opcode can say
abbrev pub HaveForms : List Instruction → Type 0
HaveForms body = (at : ℕ) (i : Instruction) → slice_get body at ≡ Some i → IsForm i

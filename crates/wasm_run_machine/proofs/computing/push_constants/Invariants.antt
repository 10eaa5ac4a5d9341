use Rattle.std.proofs.Common.{◌≡◌, ℕ, ◌-◌, List, length}
use Rattle.wasm_lang.specs.Instructions.{Instruction}
use Rattle.wasm_lang.specs.Modules.{WasmModule}
use Rattle.wasm_laws_drive.specs.Drive.{Outcome}
use Rattle.wasm_laws_machine.specs.Meaning.{Runs}
use Rattle.wasm_run_frames.specs.Views.{machine_of}
use Rattle.wasm_run_machine.proofs.computing.push_constants.Given as goal

abbrev pub invariant-constants : goal.invariant-constants
invariant-constants l = record {
  shown : (bodies : ℕ → List Instruction) (m : WasmModule) (n : ℕ) (r : Outcome) → bodies (machine_of l.fn.machine).function ≡ l.body
      → Runs bodies m (machine_of l.fn.machine) n r → Runs bodies m (machine_of l.machine) n r;
  function : l.machine.function ≡ l.fn.machine.function;
}

abbrev pub decreases-constants : goal.decreases-constants
decreases-constants l = length l.body - l.machine.at

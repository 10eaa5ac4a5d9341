use Rattle.std.proofs.Common.{◌≡◌, ℕ, List, length, vec_len}
use Rattle.wasm_lang.specs.Instructions.{Instruction}
use Rattle.wasm_lang.specs.Modules.{WasmModule}
use Rattle.wasm_laws_drive.specs.Drive.{Outcome}
use Rattle.wasm_laws_machine.specs.Meaning.{Branches}
use Rattle.wasm_run_frames.specs.Views.{machine_of}
use Rattle.wasm_run_frames.proofs.leaving.branch.Given as goal

-- the branch is still on its way, out of one label less
abbrev pub invariant-labels : goal.invariant-labels
invariant-labels l =
    (bodies : ℕ → List Instruction) (m : WasmModule) (floor n : ℕ) (r : Outcome)
    → floor ≡ length (machine_of l.fn.machine).below → Branches bodies m (machine_of l.fn.machine) floor l.fn.label n r
    → Branches bodies m (machine_of l.machine) l.floor l.left n r

abbrev pub decreases-labels : goal.decreases-labels
decreases-labels l = vec_len l.machine.enclosing

use Rattle.std.proofs.Common.{◌≡◌, ℕ, List, length, vec_len}
use Rattle.wasm_lang.specs.Instructions.{Instruction}
use Rattle.wasm_lang.specs.Modules.{WasmModule}
use Rattle.wasm_laws_drive.specs.Drive.{Outcome}
use Rattle.wasm_laws_machine.specs.Meaning.{Returns}
use Rattle.wasm_run_frames.specs.Views.{machine_of}
use Rattle.wasm_run_frames.proofs.leaving.give_back.Given as goal

-- the return is still on its way
abbrev pub invariant-labels : goal.invariant-labels
invariant-labels l =
    (bodies : ℕ → List Instruction) (m : WasmModule) (floor n : ℕ) (r : Outcome)
    → floor ≡ length (machine_of l.fn.machine).below → Returns bodies m (machine_of l.fn.machine) floor n r
    → Returns bodies m (machine_of l.machine) l.floor n r

abbrev pub decreases-labels : goal.decreases-labels
decreases-labels l = vec_len l.machine.enclosing

-- What functions of the machine promise.
use Rattle.std.specs.Prelude.{◌≡◌, ℕ, suc, List, [], ◌∷◌, Some, slice_get}
use Rattle.wasm_lang.specs.Instructions.{Instruction}
use Rattle.wasm_lang.specs.Modules.{WasmModule}
use Rattle.session_lang.specs.Views.{end_of}
use Rattle.wasm_laws_drive.specs.Drive.{Outcome, Ended, Stuck}
use Rattle.wasm_run_flat.specs.declared.target.Target.{Target}
use Rattle.wasm_run_flat.specs.Laws.{IsLeft, IsDone}
use Rattle.wasm_laws_machine.specs.Machine.{MachinePlain, targets_of}
use Rattle.wasm_laws_machine.specs.Meaning.{Shows, Runs}
use Rattle.wasm_run_frames.specs.declared.machine.Machine.{Machine}
use Rattle.wasm_run_frames.specs.declared.machine.Flow.{Flow}
use Rattle.wasm_run_frames.specs.declared.machine.Flow.TheVariants.{On, Over, Stuck as No}
use Rattle.wasm_run_frames.specs.Views.{machine_of}

module _ (bodies : ℕ → List Instruction) (m : WasmModule) where
  -- the outcome is shown by the machine that goes on, or is the machine's ending, or that nothing can be reduced
  abbrev pub Comes : Flow → Machine → ℕ → Outcome → Type 0
  Comes On v n r = Shows bodies m (machine_of v) n r
  Comes Over v n r = r ≡ Ended (end_of v.ending) (machine_of v).store
  Comes No v n r = r ≡ Stuck (machine_of v).store

-- `place` is where the machine goes on after the end at its place; where no label is left in its function, the end is the function's
pub record IsEndAt (body : List Instruction) (v : MachinePlain) (place : ℕ) : Type 0 where
  pub in_label : (t : Target) (ts : List Target) → targets_of v.enclosing ≡ t ∷ ts → IsLeft body v.at place ts
  pub in_function : targets_of v.enclosing ≡ [] → IsDone body v.at

-- the machine does this instruction of a body, whose reduction is paid
abbrev pub Does : List Instruction → Instruction → MachinePlain → Flow → Machine → Type 0
Does body i old flow new =
    (bodies : ℕ → List Instruction) (m : WasmModule) (n : ℕ) (r : Outcome)
    → bodies old.function ≡ body → slice_get body old.at ≡ Some i → Runs bodies m old (suc n) r → Comes bodies m flow new n r

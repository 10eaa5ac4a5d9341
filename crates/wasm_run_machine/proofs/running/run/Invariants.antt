use Rattle.wasm_laws_drive.specs.Drive.{Outcome}
use Rattle.wasm_tree.specs.Views.{module_of}
use Rattle.wasm_laws_machine.specs.Meaning.{Shows}
use Rattle.wasm_run_frames.specs.Views.{machine_of}
use Rattle.wasm_run_machine.specs.Functions.{AreFunctions, bodies_of}
use Rattle.wasm_run_machine.proofs.running.run.Given as goal

-- what was shown at the start is shown still
abbrev pub invariant-steps : goal.invariant-steps
invariant-steps l =
    (r : Outcome) → AreFunctions (module_of l.«module») l.functions
    → Shows (bodies_of l.functions) (module_of l.«module») (machine_of l.fn.machine) l.fn.steps r
    → Shows (bodies_of l.functions) (module_of l.«module») (machine_of l.machine) l.left r

abbrev pub decreases-steps : goal.decreases-steps
decreases-steps l = l.left

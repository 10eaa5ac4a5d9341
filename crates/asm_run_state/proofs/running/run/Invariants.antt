use Rattle.std.proofs.Common.{◌≡◌, ℕ, Some}
use Rattle.session_lang.specs.Observation.{ObservationPlain}
use Rattle.asm_tree.specs.Views.{module_view}
use Rattle.asm_run_steps.specs.Worlds.{world_of}
use Rattle.asm_run_steps.specs.States.{state_of}
use Rattle.asm_run_state.specs.Session.{resting}
use Rattle.asm_run_state.proofs.Whole.{seen_from}
use Rattle.asm_run_state.proofs.running.run.Given as goal

-- what is seen of all calls is seen of those that are left
abbrev pub invariant-loop-i : goal.invariant-loop-i
invariant-loop-i l =
    (steps : ℕ) (o : ObservationPlain) → seen_from (module_view l.«module») steps l.calls 0 (resting (world_of l.fn.world)) ≡ Some o → seen_from (module_view l.«module») steps l.calls l.i (state_of l.machine) ≡ Some o

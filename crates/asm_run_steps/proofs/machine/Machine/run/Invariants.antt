use Rattle.std.proofs.Common.{◌≡◌, ℕ, ◌+◌, ◌*◌, length}
use Rattle.asm_run_code.specs.Machine.{Came, Leads}
use Rattle.asm_run_steps.specs.Linked.{codes_in}
use Rattle.asm_run_steps.specs.States.{state_of}
use Rattle.asm_run_steps.specs.Runs.{HasEnded}
use Rattle.asm_run_steps.proofs.machine.Machine.run.Given as goal

abbrev pub invariant-functions : goal.invariant-functions
invariant-functions l = (r : Came) → HasEnded r → Leads (codes_in l.linked) (state_of l.initial.self) r → Leads (codes_in l.linked) (state_of l.self) r

-- a call takes a unit, and a return a caller
abbrev pub decreases-functions : goal.decreases-functions
decreases-functions l = l.self.world.units * 2 + length l.self.callers.items

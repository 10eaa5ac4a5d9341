use Rattle.std.proofs.Common.{◌≡◌, ℕ, ◌+◌, ◌*◌, ◌≤◌, Some}
use Rattle.std.specs.Prelude.{slice_get}
use Rattle.asm_run_code.specs.Machine.{Flat, Came, Leads}
use Rattle.asm_run_steps.specs.Worlds.{world_of}
use Rattle.asm_run_steps.specs.Linked.{codes_in}
use Rattle.asm_run_steps.specs.States.{Callers, state_in}
use Rattle.asm_run_steps.specs.Runs.{HasEnded}
use Rattle.asm_run_steps.proofs.bodies.run_ops.Given as goal

abbrev pub invariant-operations : goal.invariant-operations
invariant-operations l = record {
  shown : (function : ℕ) (callers : Callers) (f : Flat) (r : Came)
      → slice_get (codes_in l.linked).functions function ≡ Some f → f.code ≡ l.code → HasEnded r
      → Leads (codes_in l.linked) (state_in function l.begin callers l.initial.words (world_of l.initial.world)) r
      → Leads (codes_in l.linked) (state_in function l.at callers l.words (world_of l.world)) r;
  units : l.world.units ≤ l.initial.world.units;
}

-- units are taken where an operation leads backwards
abbrev pub decreases-operations : goal.decreases-operations
decreases-operations l = l.world.units * 4294967296 + l.at

use Rattle.std.proofs.Common.{◌≡◌, ◌≤◌, length, drop}
use Rattle.asm_run_emit_bodies.specs.Switches.{jumps}
use Rattle.asm_run_emit_bodies.proofs.switches.put_jumps.Given as goal

abbrev pub invariant-loop-i : goal.invariant-loop-i
invariant-loop-i l = record {
  within : l.i ≤ length l.targets;
  made : l.output ≡ jumps l.starts (drop l.i l.targets) l.initial.output;
}

abbrev pub decreases-loop-i : goal.decreases-loop-i
decreases-loop-i l = l.i

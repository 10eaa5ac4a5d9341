use Rattle.std.proofs.Common.{◌≡◌, ◌≤◌, length, drop}
use Rattle.asm_tree.specs.Views.{clauses_view}
use Rattle.asm_run_code.specs.Bodies.{case_ops}
use Rattle.asm_run_emit_bodies.proofs.switches.put_cases.Given as goal

abbrev pub invariant-loop-i : goal.invariant-loop-i
invariant-loop-i l = record {
  within : l.i ≤ length l.clauses;
  made : l.output ≡ case_ops l.slot (clauses_view (drop l.i l.clauses)) (drop l.i l.starts) l.initial.output;
}

abbrev pub decreases-loop-i : goal.decreases-loop-i
decreases-loop-i l = l.i

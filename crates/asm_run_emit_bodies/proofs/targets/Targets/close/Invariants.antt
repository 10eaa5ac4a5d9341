use Rattle.std.proofs.Common.{◌≡◌, drop}
use Rattle.asm_run_emit_bodies.proofs.targets.Targets.close.Given as goal

abbrev pub invariant-loop : goal.invariant-loop
invariant-loop l = l.self ≡ drop l.counter l.initial.self

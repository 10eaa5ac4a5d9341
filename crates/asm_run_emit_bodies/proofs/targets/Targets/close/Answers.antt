use Rattle.std.proofs.Common.{drop, ap, ◌∙◌}
use Rattle.asm_run_emit_bodies.proofs.Places.{one_less}
use Rattle.asm_run_emit_bodies.proofs.targets.Targets.close.Goals as goal

pub loop-preserved : goal.loop-preserved
loop-preserved c = c.close_one.ensures ∙ ap (drop 1) c.loop.invariant ∙ one_less c.loop.counter c.args.self.now

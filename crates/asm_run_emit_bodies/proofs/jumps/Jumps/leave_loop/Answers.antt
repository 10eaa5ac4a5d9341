use Rattle.asm_run_emit_bodies.proofs.Inside.{loop_left}
use Rattle.asm_run_emit_bodies.proofs.jumps.Jumps.leave_loop.Goals as goal

pub returns : goal.returns
returns c = λ outside next past e. loop_left c.args.self.now outside c.close.new.self c.args.own.now next past c.close-2.new.self c.close-3.new.self e c.close.ensures c.close-2.ensures c.close-3.ensures

use Rattle.asm_run_emit_bodies.proofs.Inside.{named_left}
use Rattle.asm_run_emit_bodies.proofs.jumps.Jumps.leave_labelled.Goals as goal

pub returns : goal.returns
returns c = λ outside past e. named_left c.args.self.now outside c.close.new.self c.args.labels.now past e c.close.ensures

use Rattle.asm_run_emit_bodies.proofs.Whole.{whole_named}
use Rattle.asm_run_emit_bodies.proofs.modules.emit_function.Goals as goal

pub returns-in-Ok : goal.returns-in-Ok
returns-in-Ok c = whole_named c.emit_body.result c.emit_body.new.output c.in-Ok.names c.args.«module».now c.args.function.now (rw c.in-Ok.is at c.new.ensures.home) (rw c.in-Ok.is at c.new.ensures.function) c.emit_body.ensures

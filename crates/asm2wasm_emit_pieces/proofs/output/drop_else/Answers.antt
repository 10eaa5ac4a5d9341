use Rattle.asm2wasm_emit_pieces.proofs.Backs.{an_else, another}
use Rattle.asm2wasm_emit_pieces.proofs.output.drop_else.Goals as goal

pub returns-then-marks : goal.returns-then-marks
returns-then-marks c = an_else c.args.code.now.items c.pop.new.self.items c.in-Some.last c.in-Some.ensures.items c.is_else-marks.result c.is_else-marks.ensures c.if-marks.true

pub returns : goal.returns
returns c = another c.args.code.now.items c.pop.new.self.items c.in-Some.last c.in-Some.ensures.items c.push.new.self.items c.in_ok-push.ensures.items c.is_else-marks.result c.is_else-marks.ensures c.if-marks.false

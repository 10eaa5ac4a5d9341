use Rattle.wasm_run_frames.proofs.Carried.{carried}
use Rattle.wasm_run_frames.proofs.carrying.carry.Goals as goal

pub returns : goal.returns
returns c = carried c.args.arity c.args.floor c.args.outer c.args.operands.now.values c.args.operands.now.below c.keep.new.self.values c.keep.new.self.below
    c.come_down.new.operands.values c.come_down.new.operands.below c.keep-2.new.self.values c.keep-2.new.self.below c.come_down-2.new.operands.values c.come_down-2.new.operands.below c.keep-2.result
    c.if-not-keep.ensures.kept c.keep.ensures.below c.come_down.ensures c.keep-2.ensures.kept c.keep-2.ensures.below c.come_down-2.ensures

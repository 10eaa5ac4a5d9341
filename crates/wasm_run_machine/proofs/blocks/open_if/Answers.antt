use Rattle.wasm_run_frames.specs.Views.{machine_of}
use Rattle.wasm_run_machine.proofs.Opened.{if_does, if_is_stuck}
use Rattle.wasm_run_machine.proofs.blocks.open_if.Goals as goal

pub returns-in_default : goal.returns-in_default
returns-in_default c = λ bodies m n r same got s. if_is_stuck bodies m (machine_of c.args.machine.now) n r c.args.body.now c.args.kind c.in_default.ensures.number same got s

pub returns : goal.returns
returns c = λ bodies m n r same got s.
    if_does bodies m (machine_of c.args.machine.now) (machine_of c.enter_block.new.machine) n c.in-Some.condition r c.args.body.now c.pop32.new.self.values c.pop32.new.self.below c.args.kind
    c.past_end.result c.arm_at-inside.result c.arity_of.result c.in-Some.ensures.number c.pop32.ensures.below c.in_ok-enter_block.ensures c.past_end.ensures c.arm_at-inside.ensures c.arity_of.ensures same got s

use Rattle.wasm_run_frames.specs.Views.{machine_of}
use Rattle.wasm_run_machine.proofs.Opened.{block_does}
use Rattle.wasm_run_machine.proofs.blocks.open_block.Goals as goal

pub returns : goal.returns
returns c = λ bodies m n r same got s.
    block_does bodies m (machine_of c.args.machine.now) (machine_of c.enter_block.new.machine) n r c.args.body.now c.args.kind c.past_end.result c.arity_of.result
    c.in_ok-enter_block.ensures c.past_end.ensures c.arity_of.ensures same got s

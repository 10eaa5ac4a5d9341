use Rattle.wasm_run_frames.specs.Views.{machine_of}
use Rattle.wasm_run_machine.proofs.Opened.{loop_does}
use Rattle.wasm_run_machine.proofs.blocks.open_loop.Goals as goal

pub returns : goal.returns
returns c = λ bodies m n r same got s.
    loop_does bodies m (machine_of c.args.machine.now) (machine_of c.enter_block.new.machine) n r c.args.body.now c.args.kind c.in_ok-enter_block.ensures same got s

use Rattle.wasm_run_frames.specs.Views.{machine_of}
use Rattle.wasm_run_machine.proofs.Opened.{else_is_at}
use Rattle.wasm_run_machine.proofs.blocks.end_arm.Goals as goal

pub returns : goal.returns
returns c = λ bodies m n r same got s.
    c.end_block.ensures bodies m n r (else_is_at bodies m (machine_of c.args.machine.now) n c.past_end-place.result r c.args.body.now c.past_end-place.ensures same got s) s

use Rattle.std.proofs.Common.{◌+◌, refl}
use Rattle.wasm_run_frames.specs.Views.{machine_of}
use Rattle.wasm_run_machine.proofs.Opened.{end_is_at}
use Rattle.wasm_run_machine.proofs.blocks.end.Goals as goal

pub returns : goal.returns
returns c = λ bodies m n r same got s.
    c.end_block.ensures bodies m n r (end_is_at bodies m (machine_of c.args.machine.now) n (c.args.machine.now.at + 1) r c.args.body.now refl same got s) s

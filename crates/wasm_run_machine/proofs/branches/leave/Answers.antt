use Rattle.std.proofs.Common.{length, refl}
use Rattle.wasm_run_frames.specs.Views.{machine_of}
use Rattle.wasm_run_machine.proofs.Done.{return_does}
use Rattle.wasm_run_machine.proofs.branches.leave.Goals as goal

pub returns : goal.returns
returns c = λ bodies m n r same got s.
    let v = machine_of c.args.machine.now in
    c.give_back.ensures bodies m (length v.below) n r refl (return_does bodies m v n r c.args.body.now same got s)

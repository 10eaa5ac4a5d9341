use Rattle.std.proofs.Common.{length, refl}
use Rattle.wasm_run_frames.specs.Views.{machine_of}
use Rattle.wasm_run_machine.proofs.Done.{br_does}
use Rattle.wasm_run_machine.proofs.branches.branch_always.Goals as goal

pub returns : goal.returns
returns c = λ bodies m n r same got s.
    let v = machine_of c.args.machine.now in
    c.branch-flow.ensures bodies m (length v.below) n r refl (br_does bodies m v n c.args.label r c.args.body.now same got s)

use Rattle.std.proofs.Common.{◌∷◌, refl}
use Rattle.wasm_laws_machine.specs.Machine.{of_frame, MachinePlain}
use Rattle.wasm_laws_machine.proofs.Branching.{frame_ends}
use Rattle.wasm_run_frames.specs.Views.{frame_of, machine_of}
use Rattle.wasm_run_frames.proofs.leaving.end_frame.Goals as goal

pub returns : goal.returns
returns c = λ bodies m n r done s.
    let old = machine_of c.args.machine.now in
    let v : MachinePlain = record old { enclosing = of_frame (frame_of c.args.frame) ∷ old.enclosing } in
    frame_ends bodies m v (frame_of c.args.frame) old.enclosing n r c.come_down.new.operands.values c.come_down.new.operands.below refl c.come_down.ensures done s

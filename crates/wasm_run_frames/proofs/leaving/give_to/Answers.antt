use Rattle.std.proofs.Common.{◌∷◌, refl}
use Rattle.wasm_laws_machine.specs.Machine.{of_frame, MachinePlain}
use Rattle.wasm_laws_machine.proofs.Branching.{return_lands, return_sticks}
use Rattle.wasm_run_frames.specs.Views.{frame_of, machine_of}
use Rattle.wasm_run_frames.proofs.leaving.give_to.Goals as goal

pub returns-then-not-carry : goal.returns-then-not-carry
returns-then-not-carry c = λ bodies m n r s.
    let v : MachinePlain = record (machine_of c.args.machine.now) { enclosing = of_frame (frame_of c.args.frame) ∷ (machine_of c.args.machine.now).enclosing } in
    return_sticks bodies m v (frame_of c.args.frame) (machine_of c.args.machine.now).enclosing c.args.floor n r refl c.if-not-carry.ensures s

pub returns : goal.returns
returns c = λ bodies m n r s.
    let v : MachinePlain = record (machine_of c.args.machine.now) { enclosing = of_frame (frame_of c.args.frame) ∷ (machine_of c.args.machine.now).enclosing } in
    return_lands bodies m v (frame_of c.args.frame) (machine_of c.args.machine.now).enclosing c.args.floor n r c.carry.new.operands.values c.carry.new.operands.below
    refl c.if-not-carry.ensures s

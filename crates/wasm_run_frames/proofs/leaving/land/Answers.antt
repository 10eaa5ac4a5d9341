use Rattle.std.proofs.Common.{◌∷◌, refl}
use Rattle.wasm_laws_machine.specs.Machine.{of_label, MachinePlain}
use Rattle.wasm_laws_machine.proofs.Branching.{branch_sticks}
use Rattle.wasm_run_frames.specs.Views.{label_of, machine_of}
use Rattle.wasm_run_frames.proofs.Left.{lands}
use Rattle.wasm_run_frames.proofs.leaving.land.Goals as goal

pub returns-then-not-carry : goal.returns-then-not-carry
returns-then-not-carry c = λ bodies m n r s.
    let v : MachinePlain = record (machine_of c.args.machine.now) { enclosing = of_label (label_of c.args.label) ∷ (machine_of c.args.machine.now).enclosing } in
    branch_sticks bodies m v (label_of c.args.label) (machine_of c.args.machine.now).enclosing c.args.floor n r refl c.if-not-carry.ensures s

pub returns : goal.returns
returns c = λ bodies m n r s.
    let v : MachinePlain = record (machine_of c.args.machine.now) { enclosing = of_label (label_of c.args.label) ∷ (machine_of c.args.machine.now).enclosing } in
    lands bodies m v (label_of c.args.label) (machine_of c.args.machine.now).enclosing c.args.floor n c.place_of-machine.result r c.carry.new.operands.values c.carry.new.operands.below
    c.place_of-machine.ensures refl c.if-not-carry.ensures s

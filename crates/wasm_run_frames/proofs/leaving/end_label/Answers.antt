use Rattle.std.proofs.Common.{◌∷◌, refl}
use Rattle.wasm_laws_machine.specs.Machine.{of_label, MachinePlain}
use Rattle.wasm_laws_machine.proofs.Branching.{label_ends}
use Rattle.wasm_run_frames.specs.Views.{label_of, machine_of}
use Rattle.wasm_run_frames.proofs.leaving.end_label.Goals as goal

pub returns : goal.returns
returns c = λ bodies m n r left s.
    let old = machine_of c.args.machine.now in
    let v : MachinePlain = record old { enclosing = of_label (label_of c.args.label) ∷ old.enclosing } in
    label_ends bodies m v (label_of c.args.label) old.enclosing n r c.come_down.new.operands.values c.come_down.new.operands.below c.args.place refl c.come_down.ensures left s

use Rattle.std.proofs.Common.{◌≡◌, List, [], ◌∷◌, ◌++◌, sym, ap, ◌∙◌}
use Rattle.std.proofs.lemmas.List.{nil_from_length}
use Rattle.wasm_laws_machine.specs.Machine.{of_frame}
use Rattle.wasm_laws_machine.proofs.Branching.{return_is_inside, return_passes}
use Rattle.wasm_run_frames.specs.declared.machine.Enclosing.{Enclosing}
use Rattle.wasm_run_frames.specs.Views.{label_of, frame_of, enclosing_of, all_enclosing, machine_of}
use Rattle.wasm_run_frames.proofs.Zeros.{innermost}
use Rattle.wasm_run_frames.proofs.Left.{returns_in}
use Rattle.wasm_run_frames.proofs.leaving.give_back.Goals as goal

-- what was popped
popped : (old new : List Enclosing) (next : Enclosing) → old ≡ new ++ next ∷ [] → all_enclosing old ≡ enclosing_of next ∷ all_enclosing new
popped old new next h = ap all_enclosing h ∙ innermost new next

pub returns-in_default : goal.returns-in_default
returns-in_default c = λ bodies m floor n r e s.
    let v = machine_of c.labels.machine in
    let none : c.labels.machine.enclosing.items ≡ [] = nil_from_length c.labels.machine.enclosing.items (sym c.labels.machine.enclosing.ok.0 ∙ c.in_default.ensures.cases.0) in
    absurd (return_is_inside bodies m v c.labels.floor n r (ap all_enclosing none) (c.labels.invariant bodies m floor n r e s))

pub returns-in-Frame : goal.returns-in-Frame
returns-in-Frame c = λ bodies m floor n r e s.
    let v = machine_of c.labels.machine in
    let es = popped c.labels.machine.enclosing.items c.pop.new.self.items c.in-Some.next c.in-Some.ensures.items ∙ ap (λ x. enclosing_of x ∷ all_enclosing c.pop.new.self.items) c.in-Frame.is in
    c.give_to.ensures bodies m n r (returns_in bodies m v (of_frame (frame_of c.in-Frame.frame) ∷ all_enclosing c.pop.new.self.items) c.labels.floor n r es (c.labels.invariant bodies m floor n r e s))

pub labels-preserved : goal.labels-preserved
labels-preserved c = λ bodies m floor n r e s.
    let v = machine_of c.labels.machine in
    let es = popped c.labels.machine.enclosing.items c.pop.new.self.items c.in-Some.next c.in-Some.ensures.items ∙ ap (λ x. enclosing_of x ∷ all_enclosing c.pop.new.self.items) c.in-Label.is in
    return_passes bodies m v (label_of c.in-Label.block) (all_enclosing c.pop.new.self.items) c.labels.floor n r es (c.labels.invariant bodies m floor n r e s)

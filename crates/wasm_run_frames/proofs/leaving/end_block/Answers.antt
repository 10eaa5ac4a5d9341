use Rattle.std.proofs.Common.{◌≡◌, suc, List, [], ◌∷◌, ◌++◌, sym, ap, subst, ◌∙◌}
use Rattle.std.proofs.lemmas.List.{nil_from_length}
use Rattle.wasm_laws_machine.specs.Machine.{of_label, of_frame, targets_of}
use Rattle.wasm_laws_machine.specs.Meaning.{IsEnclosed}
use Rattle.wasm_laws_machine.proofs.Branching.{shows_with}
use Rattle.wasm_run_frames.specs.declared.machine.Enclosing.{Enclosing}
use Rattle.wasm_run_frames.specs.Views.{label_of, frame_of, enclosing_of, all_enclosing, machine_of}
use Rattle.wasm_run_frames.proofs.Zeros.{innermost}
use Rattle.wasm_run_frames.proofs.leaving.end_block.Goals as goal

-- what was popped
popped : (old new : List Enclosing) (next : Enclosing) → old ≡ new ++ next ∷ [] → all_enclosing old ≡ enclosing_of next ∷ all_enclosing new
popped old new next h = ap all_enclosing h ∙ innermost new next

pub returns-in_default : goal.returns-in_default
returns-in_default c = λ bodies m n r ends s.
    let none : c.args.machine.now.enclosing.items ≡ [] = nil_from_length c.args.machine.now.enclosing.items (sym c.args.machine.now.enclosing.ok.0 ∙ c.in_default.ensures.cases.0) in
    absurd (subst IsEnclosed (ap all_enclosing none) s.0)

pub returns-in-Label : goal.returns-in-Label
returns-in-Label c = λ bodies m n r ends s.
    let v = machine_of c.args.machine.now in
    let rest = all_enclosing c.pop.new.self.items in
    let es : all_enclosing c.args.machine.now.enclosing.items ≡ of_label (label_of c.in-Label.label) ∷ rest =
    popped c.args.machine.now.enclosing.items c.pop.new.self.items c.in-Some.next c.in-Some.ensures.items ∙ ap (λ x. enclosing_of x ∷ rest) c.in-Label.is in
    c.end_label.ensures bodies m n r (ends.in_label c.in-Label.label.target (targets_of rest) (ap targets_of es)) (shows_with bodies m v (of_label (label_of c.in-Label.label) ∷ rest) (suc n) r es s.1)

pub returns-in-Frame : goal.returns-in-Frame
returns-in-Frame c = λ bodies m n r ends s.
    let v = machine_of c.args.machine.now in
    let rest = all_enclosing c.pop.new.self.items in
    let es : all_enclosing c.args.machine.now.enclosing.items ≡ of_frame (frame_of c.in-Frame.frame) ∷ rest =
    popped c.args.machine.now.enclosing.items c.pop.new.self.items c.in-Some.next c.in-Some.ensures.items ∙ ap (λ x. enclosing_of x ∷ rest) c.in-Frame.is in
    c.end_frame.ensures bodies m n r (ends.in_function (ap targets_of es)) (shows_with bodies m v (of_frame (frame_of c.in-Frame.frame) ∷ rest) (suc n) r es s.1)

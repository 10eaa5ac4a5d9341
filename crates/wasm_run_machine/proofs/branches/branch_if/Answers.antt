use Rattle.std.proofs.Common.{◌∷◌, length, refl, ap, ◌∙◌}
use Rattle.sem_words.specs.declared.word.Word.TheVariants.{W32}
use Rattle.wasm_run_frames.specs.Views.{machine_of}
use Rattle.wasm_run_machine.proofs.Done.{br_if_taken, br_if_passes, br_if_is_stuck}
use Rattle.wasm_run_machine.proofs.branches.branch_if.Goals as goal

pub returns-in_default : goal.returns-in_default
returns-in_default c = λ bodies m n r same got s. br_if_is_stuck bodies m (machine_of c.args.machine.now) n c.args.label r c.args.body.now c.in_default.ensures.number same got s

pub returns-then-condition-eq0 : goal.returns-then-condition-eq0
returns-then-condition-eq0 c = λ bodies m n r same got s.
    br_if_passes bodies m (machine_of c.args.machine.now) n c.args.label r c.args.body.now c.pop32.new.self.values c.pop32.new.self.below
    (c.in-Some.ensures.number ∙ ap (λ n. W32 n ∷ c.pop32.new.self.values) c.if-condition-eq0.true) c.pop32.ensures.below same got s

pub returns : goal.returns
returns c = λ bodies m n r same got s.
    c.branch-flow.ensures bodies m (length c.pop32.new.self.below) n r refl
    (br_if_taken bodies m (machine_of c.args.machine.now) n c.args.label c.in-Some.condition r c.args.body.now c.pop32.new.self.values c.pop32.new.self.below c.if-condition-eq0.false c.in-Some.ensures.number c.pop32.ensures.below same got s)

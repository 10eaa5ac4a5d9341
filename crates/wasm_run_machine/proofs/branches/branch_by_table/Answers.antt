use Rattle.std.proofs.Common.{length, refl}
use Rattle.sem_words.specs.Lists.{list_items}
use Rattle.wasm_run_frames.specs.Views.{machine_of}
use Rattle.wasm_run_machine.proofs.Done.{br_table_does, br_table_is_stuck}
use Rattle.wasm_run_machine.proofs.branches.branch_by_table.Goals as goal

pub returns-in_default : goal.returns-in_default
returns-in_default c = λ bodies m n r same got s.
    br_table_is_stuck bodies m (machine_of c.args.machine.now) n c.args.default (list_items c.args.labels.now) r c.args.body.now c.in_default.ensures.number same got s

pub returns : goal.returns
returns c = λ bodies m n r same got s.
    c.branch-flow.ensures bodies m (length c.pop32.new.self.below) n r refl
    (br_table_does bodies m (machine_of c.args.machine.now) n c.args.default c.in-Some.index c.label_at-label.result (list_items c.args.labels.now) r c.args.body.now c.pop32.new.self.values c.pop32.new.self.below
    c.in-Some.ensures.number c.pop32.ensures.below c.label_at-label.ensures same got s)

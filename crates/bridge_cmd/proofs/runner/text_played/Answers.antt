use Rattle.asm_tree.specs.Views.{module_view}
use Rattle.bridge_lang.specs.Job.{ran}
use Rattle.bridge_cmd.proofs.Jobs.{text_script_answer}
use Rattle.bridge_cmd.proofs.runner.text_played.Goals as goal

pub returns-in-Ok-clause-ran : goal.returns-in-Ok-clause-ran
returns-in-Ok-clause-ran c = rw c.from_vec.ensures (ran c.in-Ok.ensures)

pub returns-in-Err-clause-refused : goal.returns-in-Err-clause-refused
returns-in-Err-clause-refused c = rw c.of_script.ensures
    (text_script_answer (module_view c.args.checked.now) c.args.heap.bytes c.args.steps c.args.script.now c.in-Err.fault c.in-Err.ensures)

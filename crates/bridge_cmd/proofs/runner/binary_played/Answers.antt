use Rattle.bridge_lang.specs.Job.{ran}
use Rattle.bridge_cmd.proofs.Jobs.{binary_script_answer}
use Rattle.bridge_cmd.proofs.runner.binary_played.Goals as goal

pub returns-in-Ok-clause-ran : goal.returns-in-Ok-clause-ran
returns-in-Ok-clause-ran c = rw c.from_vec.ensures (ran c.in-Ok.ensures)

pub returns-in-Err-clause-refused : goal.returns-in-Err-clause-refused
returns-in-Err-clause-refused c = rw c.of_script.ensures (binary_script_answer c.args.valid.now c.args.steps c.args.script.now c.in-Err.fault c.in-Err.ensures)

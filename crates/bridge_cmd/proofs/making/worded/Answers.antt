use Rattle.std.proofs.Common.{refl}
use Rattle.bridge_lang.specs.declared.making.Making.TheVariants.{WasmToWat}
use Rattle.bridge_lang.specs.Answers.{want_of_memory}
use Rattle.bridge_lang.specs.Command.{make}
use Rattle.bridge_lang.specs.Job.{of_binary}
use Rattle.bridge_cmd.proofs.Jobs.{check_answer}
use Rattle.bridge_cmd.proofs.making.worded.Goals as goal

pub returns-in-Err-clause-barred : goal.returns-in-Err-clause-barred
returns-in-Err-clause-barred c = rw c.of_check.ensures (check_answer (make WasmToWat) c.args.bytes.now c.in-Err.fault refl c.in-Err.ensures.refused)

pub returns-in-Ok-output-clause-made : goal.returns-in-Ok-output-clause-made
returns-in-Ok-output-clause-made c = rw c.from_vec.ensures (of_binary c.in-Ok.valid refl c.in-Ok.ensures.valid c.in-Ok-output.ensures)

pub returns-in-Err-output-clause-barred : goal.returns-in-Err-output-clause-barred
returns-in-Err-output-clause-barred c = want_of_memory

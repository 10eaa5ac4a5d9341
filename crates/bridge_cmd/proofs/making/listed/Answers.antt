use Rattle.std.proofs.Common.{◌∙◌, ap}
use Rattle.bridge_lang.specs.Listing.{listing}
use Rattle.bridge_lang.specs.Answers.{want_of_memory}
use Rattle.bridge_lang.specs.declared.making.Making.TheVariants.{Show}
use Rattle.bridge_lang.specs.Command.{make}
use Rattle.bridge_lang.specs.Job.{of_binary}
use Rattle.bridge_cmd.proofs.Jobs.{reads_module, check_answer}
use Rattle.bridge_cmd.proofs.making.listed.Goals as goal

pub returns-in-Err-clause-barred : goal.returns-in-Err-clause-barred
returns-in-Err-clause-barred c = λ is. rw c.of_check.ensures (check_answer (make Show) c.args.bytes.now c.in-Err.fault (reads_module c.args.bytes.now is) c.in-Err.ensures.refused)

pub returns-in-Ok-output-clause-made : goal.returns-in-Ok-output-clause-made
returns-in-Ok-output-clause-made c = λ is. rw c.from_vec.ensures (of_binary c.in-Ok.valid (reads_module c.args.bytes.now is) c.in-Ok.ensures.valid
    (c.in-Ok-output.ensures ∙ ap listing c.module.ensures.given))

pub returns-in-Err-output-clause-barred : goal.returns-in-Err-output-clause-barred
returns-in-Err-output-clause-barred c = λ is. want_of_memory

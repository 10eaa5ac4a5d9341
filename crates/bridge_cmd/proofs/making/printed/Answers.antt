use Rattle.std.proofs.Common.{◌∙◌, ap}
use Rattle.asm_lang.specs.Printing.{canonical_text}
use Rattle.asm_tree.specs.Views.{module_view}
use Rattle.bridge_lang.specs.Answers.{want_of_memory}
use Rattle.bridge_lang.specs.declared.making.Making.TheVariants.{Show}
use Rattle.bridge_lang.specs.Command.{make}
use Rattle.bridge_lang.specs.Job.{of_text}
use Rattle.bridge_cmd.proofs.Jobs.{reads_text, text_answer}
use Rattle.bridge_cmd.proofs.making.printed.Goals as goal

pub returns-in-Err-clause-barred : goal.returns-in-Err-clause-barred
returns-in-Err-clause-barred c = λ is. rw c.of_text.ensures (text_answer (make Show) c.args.text.now c.in-Err.fault (reads_text c.args.text.now is) c.in-Err.ensures.refused)

pub returns-in-Ok-output-clause-made : goal.returns-in-Ok-output-clause-made
returns-in-Ok-output-clause-made c = λ is. rw c.from_vec.ensures (of_text (module_view c.in-Ok.checked) (reads_text c.args.text.now is) c.in-Ok.ensures.accepted
    (c.in-Ok-output.ensures.canonical ∙ ap (λ m. canonical_text (module_view m)) c.module.ensures.given))

pub returns-in-Err-output-clause-barred : goal.returns-in-Err-output-clause-barred
returns-in-Err-output-clause-barred c = λ is. want_of_memory

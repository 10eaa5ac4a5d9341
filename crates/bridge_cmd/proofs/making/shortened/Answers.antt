use Rattle.std.proofs.Common.{refl}
use Rattle.bridge_lang.specs.declared.making.Making.TheVariants.{Shorten}
use Rattle.bridge_lang.specs.Command.{make}
use Rattle.bridge_lang.specs.Job.{of_text}
use Rattle.bridge_cmd.proofs.Jobs.{text_answer}
use Rattle.bridge_cmd.proofs.making.shortened.Goals as goal

pub returns-in-Ok-clause-made : goal.returns-in-Ok-clause-made
returns-in-Ok-clause-made c = rw c.from_vec.ensures (of_text c.in-Ok.ensures.made.«module» refl c.in-Ok.ensures.made.accepted c.in-Ok.ensures.made.shortened)

pub returns-in-Err-clause-barred : goal.returns-in-Err-clause-barred
returns-in-Err-clause-barred c = rw c.of_text.ensures (text_answer (make Shorten) c.args.text.now c.in-Err.fault refl c.in-Err.ensures.refused)

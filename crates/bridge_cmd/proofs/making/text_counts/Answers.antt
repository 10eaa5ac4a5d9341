use Rattle.std.proofs.Common.{refl}
use Rattle.bridge_lang.specs.declared.making.Making.TheVariants.{CheckAsm}
use Rattle.bridge_lang.specs.Command.{make}
use Rattle.bridge_lang.specs.Job.{of_text}
use Rattle.bridge_cmd.proofs.Jobs.{text_answer}
use Rattle.bridge_cmd.proofs.making.text_counts.Goals as goal

pub returns-in-Ok-clause-made : goal.returns-in-Ok-clause-made
returns-in-Ok-clause-made c = rw c.from_vec.ensures (of_text c.in-Ok.ensures.counted.«module» refl c.in-Ok.ensures.counted.accepted c.in-Ok.ensures.counted.counted)

pub returns-in-Err-clause-barred : goal.returns-in-Err-clause-barred
returns-in-Err-clause-barred c = rw c.of_text.ensures (text_answer (make CheckAsm) c.args.text.now c.in-Err.fault refl c.in-Err.ensures.refused)

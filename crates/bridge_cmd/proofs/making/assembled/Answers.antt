use Rattle.std.proofs.Common.{refl}
use Rattle.bridge_lang.specs.declared.making.Making.TheVariants.{WatToWasm}
use Rattle.bridge_lang.specs.Command.{make}
use Rattle.bridge_lang.specs.Job.{of_wat}
use Rattle.bridge_cmd.proofs.Jobs.{wat_answer}
use Rattle.bridge_cmd.proofs.making.assembled.Goals as goal

pub returns-in-Ok-clause-made : goal.returns-in-Ok-clause-made
returns-in-Ok-clause-made c = rw c.from_vec.ensures (of_wat c.in-Ok.ensures.made.«module» refl c.in-Ok.ensures.made.said c.in-Ok.ensures.made.shortest)

pub returns-in-Err-clause-barred : goal.returns-in-Err-clause-barred
returns-in-Err-clause-barred c = rw c.of_wat.ensures (wat_answer (make WatToWasm) c.args.text.now c.in-Err.fault refl c.in-Err.ensures.refused)

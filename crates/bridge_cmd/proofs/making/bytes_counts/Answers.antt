use Rattle.std.proofs.Common.{refl}
use Rattle.bridge_lang.specs.declared.making.Making.TheVariants.{CheckWasm}
use Rattle.bridge_lang.specs.Command.{make}
use Rattle.bridge_lang.specs.Job.{of_binary}
use Rattle.bridge_cmd.proofs.Jobs.{check_answer}
use Rattle.bridge_cmd.proofs.making.bytes_counts.Goals as goal

pub returns-in-Ok-clause-made : goal.returns-in-Ok-clause-made
returns-in-Ok-clause-made c = rw c.from_vec.ensures (of_binary c.in-Ok.ensures.counted.«module» refl c.in-Ok.ensures.counted.taken c.in-Ok.ensures.counted.counted)

pub returns-in-Err-clause-barred : goal.returns-in-Err-clause-barred
returns-in-Err-clause-barred c = rw c.of_check.ensures (check_answer (make CheckWasm) c.args.bytes.now c.in-Err.fault refl c.in-Err.ensures.refused)

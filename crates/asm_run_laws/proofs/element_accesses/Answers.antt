use Rattle.asm_run_laws.proofs.Elements.{element_read, element_written}
use Rattle.asm_run_laws.proofs.element_accesses.Goals as goal

pub returns-clause-read : goal.returns-clause-read
returns-clause-read c = element_read

pub returns-clause-written : goal.returns-clause-written
returns-clause-written c = element_written

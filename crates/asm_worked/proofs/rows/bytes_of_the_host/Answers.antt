use Rattle.asm_worked.proofs.Texts.{heard_says}
use Rattle.asm_worked.proofs.Sessions.{bytes_are_there}
use Rattle.asm_worked.proofs.rows.bytes_of_the_host.Goals as goal

pub returns-clause-text : goal.returns-clause-text
returns-clause-text c = heard_says

pub returns-clause-written : goal.returns-clause-written
returns-clause-written c = bytes_are_there

use Rattle.asm_worked.proofs.Texts.{quotient_says}
use Rattle.asm_worked.proofs.rows.quotients.Goals as goal

pub returns-clause-text : goal.returns-clause-text
returns-clause-text c = quotient_says

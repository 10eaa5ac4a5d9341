use Rattle.asm_worked.proofs.Texts.{tabled_says}
use Rattle.asm_worked.proofs.rows.tables.Goals as goal

pub returns-clause-text : goal.returns-clause-text
returns-clause-text c = tabled_says

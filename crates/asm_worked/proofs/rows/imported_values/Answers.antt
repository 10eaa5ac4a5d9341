use Rattle.asm_worked.proofs.Texts.{counter_says}
use Rattle.asm_worked.proofs.rows.imported_values.Goals as goal

pub returns-clause-text : goal.returns-clause-text
returns-clause-text c = counter_says

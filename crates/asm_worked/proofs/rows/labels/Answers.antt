use Rattle.asm_worked.proofs.Texts.{evens_says}
use Rattle.asm_worked.proofs.rows.labels.Goals as goal

pub returns-clause-text : goal.returns-clause-text
returns-clause-text c = evens_says

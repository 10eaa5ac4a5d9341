use Rattle.asm_worked.proofs.Texts.{sum_says}
use Rattle.asm_worked.proofs.rows.sums.Goals as goal

pub returns-clause-text : goal.returns-clause-text
returns-clause-text c = sum_says

use Rattle.asm_worked.proofs.Texts.{comparison_says}
use Rattle.asm_worked.proofs.rows.comparisons.Goals as goal

pub returns-clause-text : goal.returns-clause-text
returns-clause-text c = comparison_says

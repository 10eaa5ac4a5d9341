use Rattle.asm_worked.proofs.Texts.{triangle_says}
use Rattle.asm_worked.proofs.rows.recursion.Goals as goal

pub returns-clause-text : goal.returns-clause-text
returns-clause-text c = triangle_says

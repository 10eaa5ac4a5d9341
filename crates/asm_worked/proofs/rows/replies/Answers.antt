use Rattle.asm_worked.proofs.Texts.{asking_says}
use Rattle.asm_worked.proofs.rows.replies.Goals as goal

pub returns-clause-text : goal.returns-clause-text
returns-clause-text c = asking_says

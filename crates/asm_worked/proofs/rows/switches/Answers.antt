use Rattle.asm_worked.proofs.Texts.{falling_says}
use Rattle.asm_worked.proofs.rows.switches.Goals as goal

pub returns-clause-text : goal.returns-clause-text
returns-clause-text c = falling_says

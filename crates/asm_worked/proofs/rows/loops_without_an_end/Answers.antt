use Rattle.asm_worked.proofs.Texts.{forever_says}
use Rattle.asm_worked.proofs.rows.loops_without_an_end.Goals as goal

pub returns-clause-text : goal.returns-clause-text
returns-clause-text c = forever_says

use Rattle.asm_worked.proofs.Texts.{mixed_says}
use Rattle.asm_worked.proofs.Sessions.{views_are_mixed}
use Rattle.asm_worked.proofs.rows.views_of_one_buffer.Goals as goal

pub returns-clause-text : goal.returns-clause-text
returns-clause-text c = mixed_says

pub returns-clause-mixed : goal.returns-clause-mixed
returns-clause-mixed c = views_are_mixed

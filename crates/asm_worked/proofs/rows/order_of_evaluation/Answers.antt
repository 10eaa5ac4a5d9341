use Rattle.asm_worked.proofs.Texts.{ordered_says}
use Rattle.asm_worked.proofs.Sessions.{index_comes_first}
use Rattle.asm_worked.proofs.rows.order_of_evaluation.Goals as goal

pub returns-clause-text : goal.returns-clause-text
returns-clause-text c = ordered_says

pub returns-clause-from_the_left : goal.returns-clause-from_the_left
returns-clause-from_the_left c = index_comes_first

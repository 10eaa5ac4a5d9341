use Rattle.asm_laws_height.proofs.Frames.{listed_stmt_rise, clause_rise, label_rise, arm_rise, other_arm_rise, while_rise, for_rise, do_rise}
use Rattle.asm_laws_height.proofs.statement_rises.Goals as goal

pub returns-clause-listed_one : goal.returns-clause-listed_one
returns-clause-listed_one c = listed_stmt_rise

pub returns-clause-in_clause : goal.returns-clause-in_clause
returns-clause-in_clause c = clause_rise

pub returns-clause-under_label : goal.returns-clause-under_label
returns-clause-under_label c = label_rise

pub returns-clause-arm : goal.returns-clause-arm
returns-clause-arm c = arm_rise

pub returns-clause-other_arm : goal.returns-clause-other_arm
returns-clause-other_arm c = other_arm_rise

pub returns-clause-while_body : goal.returns-clause-while_body
returns-clause-while_body c = while_rise

pub returns-clause-for_body : goal.returns-clause-for_body
returns-clause-for_body c = for_rise

pub returns-clause-do_body : goal.returns-clause-do_body
returns-clause-do_body c = do_rise

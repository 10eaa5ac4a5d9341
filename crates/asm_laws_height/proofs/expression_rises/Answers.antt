use Rattle.asm_laws_height.proofs.Frames.{closed_rise, unary_rise, binary_rise, assignment_rise, store_rise, conditional_rise, listed_rise, argument_rise, plain_rise, return_rise}
use Rattle.asm_laws_height.proofs.expression_rises.Goals as goal

pub returns-clause-closed : goal.returns-clause-closed
returns-clause-closed c = closed_rise

pub returns-clause-prefix : goal.returns-clause-prefix
returns-clause-prefix c = unary_rise

pub returns-clause-operand : goal.returns-clause-operand
returns-clause-operand c = binary_rise

pub returns-clause-assigned : goal.returns-clause-assigned
returns-clause-assigned c = assignment_rise

pub returns-clause-stored : goal.returns-clause-stored
returns-clause-stored c = store_rise

pub returns-clause-third : goal.returns-clause-third
returns-clause-third c = conditional_rise

pub returns-clause-in_list : goal.returns-clause-in_list
returns-clause-in_list c = listed_rise

pub returns-clause-argument : goal.returns-clause-argument
returns-clause-argument c = argument_rise

pub returns-clause-statement : goal.returns-clause-statement
returns-clause-statement c = plain_rise

pub returns-clause-returned : goal.returns-clause-returned
returns-clause-returned c = return_rise

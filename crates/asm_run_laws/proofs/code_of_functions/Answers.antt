use Rattle.asm_run_laws.proofs.Whole.{expressions_do, statements_do, calls_do, host_calls_do}
use Rattle.asm_run_laws.proofs.code_of_functions.Goals as goal

pub returns-clause-expressions : goal.returns-clause-expressions
returns-clause-expressions c = expressions_do

pub returns-clause-statements : goal.returns-clause-statements
returns-clause-statements c = statements_do

pub returns-clause-calls : goal.returns-clause-calls
returns-clause-calls c = calls_do

pub returns-clause-host_calls : goal.returns-clause-host_calls
returns-clause-host_calls c = host_calls_do

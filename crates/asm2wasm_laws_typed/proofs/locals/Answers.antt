use Rattle.asm2wasm_laws_typed.proofs.ReachValues.{expressions_reach}
use Rattle.asm2wasm_laws_typed.proofs.ReachBodies.{statements_reach, functions_reach}
use Rattle.asm2wasm_laws_typed.proofs.locals.Goals as goal

pub returns-clause-expressions : goal.returns-clause-expressions
returns-clause-expressions c = expressions_reach

pub returns-clause-statements : goal.returns-clause-statements
returns-clause-statements c = statements_reach

pub returns-clause-functions : goal.returns-clause-functions
returns-clause-functions c = functions_reach

use Rattle.asm2wasm_laws_typed.proofs.SmallValues.{expressions_are_small}
use Rattle.asm2wasm_laws_typed.proofs.SmallBodies.{statements_are_small, functions_are_small}
use Rattle.asm2wasm_laws_typed.proofs.sizes.Goals as goal

pub returns-clause-expressions : goal.returns-clause-expressions
returns-clause-expressions c = expressions_are_small

pub returns-clause-statements : goal.returns-clause-statements
returns-clause-statements c = statements_are_small

pub returns-clause-functions : goal.returns-clause-functions
returns-clause-functions c = functions_are_small

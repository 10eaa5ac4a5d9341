use Rattle.asm2wasm_laws_typed.proofs.TypedBodies.{statements_are_typed, functions_are_valid}
use Rattle.asm2wasm_laws_typed.proofs.bodies.Goals as goal

pub returns-clause-statements : goal.returns-clause-statements
returns-clause-statements c = statements_are_typed

pub returns-clause-functions : goal.returns-clause-functions
returns-clause-functions c = functions_are_valid

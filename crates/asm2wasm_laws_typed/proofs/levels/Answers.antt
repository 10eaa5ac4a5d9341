use Rattle.asm2wasm_laws_typed.proofs.FlatValues.{expressions_are_flat}
use Rattle.asm2wasm_laws_typed.proofs.FlatBodies.{statements_are_flat, functions_are_flat}
use Rattle.asm2wasm_laws_typed.proofs.levels.Goals as goal

pub returns-clause-expressions : goal.returns-clause-expressions
returns-clause-expressions c = expressions_are_flat

pub returns-clause-statements : goal.returns-clause-statements
returns-clause-statements c = statements_are_flat

pub returns-clause-functions : goal.returns-clause-functions
returns-clause-functions c = functions_are_flat

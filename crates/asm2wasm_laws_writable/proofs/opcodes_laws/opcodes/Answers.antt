use Rattle.asm2wasm_laws_writable.proofs.OpcodesOfValues.{expressions_have_opcodes}
use Rattle.asm2wasm_laws_writable.proofs.OpcodesOfBodies.{statements_have_opcodes, functions_have_opcodes}
use Rattle.asm2wasm_laws_writable.proofs.OpcodesOfGlobals.{first_values_have_opcodes}
use Rattle.asm2wasm_laws_writable.proofs.opcodes_laws.opcodes.Goals as goal

pub returns-clause-expressions : goal.returns-clause-expressions
returns-clause-expressions c = expressions_have_opcodes

pub returns-clause-statements : goal.returns-clause-statements
returns-clause-statements c = statements_have_opcodes

pub returns-clause-functions : goal.returns-clause-functions
returns-clause-functions c = functions_have_opcodes

pub returns-clause-globals : goal.returns-clause-globals
returns-clause-globals c = first_values_have_opcodes

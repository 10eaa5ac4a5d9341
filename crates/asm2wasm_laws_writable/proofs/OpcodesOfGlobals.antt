-- What a variable of a module begins with has an opcode.
use Rattle.asm_lang.specs.Trees.{number, foreign_int}
use Rattle.asm2wasm_laws_writable.specs.OpcodesLaws.{FirstValuesHaveOpcodes}
use Rattle.asm2wasm_laws_writable.proofs.OpcodesOfValues.{number_opcode, global_get_opcode}

pub first_values_have_opcodes : FirstValuesHaveOpcodes
first_values_have_opcodes m (number z) = number_opcode 0
first_values_have_opcodes m (foreign_int f p) = global_get_opcode 0
first_values_have_opcodes m _ = number_opcode 0

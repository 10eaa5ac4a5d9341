use Rattle.wasm_laws_drive.proofs.Instructions.{no_code, narrow_constant, wide_constant, plain_instruction}
use Rattle.wasm_laws_drive.proofs.Sequences.{sequence}
use Rattle.wasm_laws_drive.proofs.laws.code.Goals as goal

pub returns-clause-none : goal.returns-clause-none
returns-clause-none c = no_code

pub returns-clause-narrow_constant : goal.returns-clause-narrow_constant
returns-clause-narrow_constant c = narrow_constant

pub returns-clause-wide_constant : goal.returns-clause-wide_constant
returns-clause-wide_constant c = wide_constant

pub returns-clause-plain_instruction : goal.returns-clause-plain_instruction
returns-clause-plain_instruction c = plain_instruction

pub returns-clause-sequence : goal.returns-clause-sequence
returns-clause-sequence c = sequence

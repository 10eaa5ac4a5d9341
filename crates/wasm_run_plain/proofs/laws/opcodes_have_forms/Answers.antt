use Rattle.wasm_run_plain.proofs.OpcodeForms.{opcode_has_form}
use Rattle.wasm_run_plain.proofs.laws.opcodes_have_forms.Goals as goal

pub returns : goal.returns
returns c = opcode_has_form

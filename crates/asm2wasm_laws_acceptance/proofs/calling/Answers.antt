use Rattle.asm2wasm_laws_acceptance.proofs.Called.{translation_is_called}
use Rattle.asm2wasm_laws_acceptance.proofs.calling.Goals as goal

pub returns : goal.returns
returns c = translation_is_called

use Rattle.asm2wasm_laws_acceptance.proofs.Valid.{translation_is_valid}
use Rattle.asm2wasm_laws_acceptance.proofs.validity.Goals as goal

pub returns : goal.returns
returns c = translation_is_valid c.heap_lengths.ensures.few

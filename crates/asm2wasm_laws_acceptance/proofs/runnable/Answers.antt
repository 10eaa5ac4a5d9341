use Rattle.asm2wasm_laws_acceptance.proofs.Running.{translation_is_runnable}
use Rattle.asm2wasm_laws_acceptance.proofs.runnable.Goals as goal

pub returns : goal.returns
returns c = translation_is_runnable c.heap_lengths.ensures.few

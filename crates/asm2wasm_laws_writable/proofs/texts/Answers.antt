use Rattle.asm2wasm_laws_writable.proofs.Said.{short_texts_are_short}
use Rattle.asm2wasm_laws_writable.proofs.texts.Goals as goal

pub returns : goal.returns
returns c = short_texts_are_short

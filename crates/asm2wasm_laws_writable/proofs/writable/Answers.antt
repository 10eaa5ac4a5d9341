use Rattle.asm2wasm_laws_writable.proofs.Said.{translation_is_writable}
use Rattle.asm2wasm_laws_writable.proofs.writable.Goals as goal

pub returns : goal.returns
returns c = translation_is_writable c.spellings.ensures.again c.spellings.ensures.nested c.spellings.ensures.levels c.heap_lengths.ensures.few c.heap_lengths.ensures.hold

use Rattle.asm2wasm_laws_writable.proofs.Shaped.{translation_is_shaped}
use Rattle.asm2wasm_laws_writable.proofs.shapes.Goals as goal

pub returns : goal.returns
returns c = translation_is_shaped c.spellings.ensures.nested

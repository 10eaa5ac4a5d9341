use Rattle.asm2wasm_laws_acceptance.proofs.Readable.{translation_is_within}
use Rattle.asm2wasm_laws_acceptance.proofs.limits.Goals as goal

pub returns : goal.returns
returns c = translation_is_within c.spellings.ensures.levels

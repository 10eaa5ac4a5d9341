use Rattle.asm2wasm_laws_profile.proofs.Whole.{translation_is_in_profile}
use Rattle.asm2wasm_laws_profile.proofs.profile.Goals as goal

pub returns : goal.returns
returns c = translation_is_in_profile c.spellings.ensures.levels c.spellings.ensures.size c.heap_lengths.ensures.few

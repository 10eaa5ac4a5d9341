use Rattle.asm2wasm_laws_profile.proofs.Foreign.{nothing_is_foreign}
use Rattle.asm2wasm_laws_profile.proofs.imports.Goals as goal

pub returns : goal.returns
returns c = nothing_is_foreign

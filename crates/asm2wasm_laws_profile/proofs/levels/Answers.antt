use Rattle.asm2wasm_laws_profile.proofs.Flat.{functions_are_flat}
use Rattle.asm2wasm_laws_profile.proofs.levels.Goals as goal

pub returns : goal.returns
returns c = functions_are_flat

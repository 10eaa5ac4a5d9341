use Rattle.asm2wasm_laws_profile.proofs.LightBodies.{functions_are_light}
use Rattle.asm2wasm_laws_profile.proofs.instructions.Goals as goal

pub returns : goal.returns
returns c = functions_are_light

use Rattle.wasm_laws_sound.proofs.Plains.{plain_is_typed}
use Rattle.wasm_laws_sound.proofs.laws.plain_instructions_go_on.Goals as goal

pub returns : goal.returns
returns c = plain_is_typed

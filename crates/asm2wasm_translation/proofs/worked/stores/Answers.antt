use Rattle.asm2wasm_translation.proofs.Sessions.{stores_are_alike}
use Rattle.asm2wasm_translation.proofs.worked.stores.Goals as goal

pub returns : goal.returns
returns c = stores_are_alike

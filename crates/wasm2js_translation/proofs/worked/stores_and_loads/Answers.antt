use Rattle.wasm2js_translation.proofs.Sessions.{remembering_is_alike}
use Rattle.wasm2js_translation.proofs.worked.stores_and_loads.Goals as goal

pub returns : goal.returns
returns c = remembering_is_alike

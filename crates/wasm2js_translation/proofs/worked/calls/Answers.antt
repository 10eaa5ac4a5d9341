use Rattle.wasm2js_translation.proofs.Sessions.{calls_are_alike}
use Rattle.wasm2js_translation.proofs.worked.calls.Goals as goal

pub returns : goal.returns
returns c = calls_are_alike

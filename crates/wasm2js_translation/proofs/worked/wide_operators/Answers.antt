use Rattle.wasm2js_translation.proofs.Sessions.{wide_is_alike}
use Rattle.wasm2js_translation.proofs.worked.wide_operators.Goals as goal

pub returns : goal.returns
returns c = wide_is_alike

use Rattle.wasm2js_translation.proofs.Sessions.{narrow_is_alike}
use Rattle.wasm2js_translation.proofs.worked.narrow_operators.Goals as goal

pub returns-clause-all : goal.returns-clause-all
returns-clause-all c = narrow_is_alike

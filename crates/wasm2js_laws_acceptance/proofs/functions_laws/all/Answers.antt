use Rattle.wasm2js_laws_acceptance.proofs.functions_laws.all.Goals as goal
use Rattle.wasm2js_laws_acceptance.proofs.FunctionsTogether.{functions_are_fine}

pub returns : goal.returns
returns c = functions_are_fine

use Rattle.wasm2js_laws_typed.proofs.FineBodies.{code_is_fine}
use Rattle.wasm2js_laws_typed.proofs.code.Goals as goal

pub returns : goal.returns
returns c = code_is_fine

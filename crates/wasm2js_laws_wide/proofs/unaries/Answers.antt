use Rattle.wasm2js_laws_wide.proofs.Each.{unaries_compute}
use Rattle.wasm2js_laws_wide.proofs.unaries.Goals as goal

pub returns : goal.returns
returns c = unaries_compute

use Rattle.wasm2js_laws_wide.proofs.Each.{binaries_compute}
use Rattle.wasm2js_laws_wide.proofs.binaries.Goals as goal

pub returns : goal.returns
returns c = binaries_compute

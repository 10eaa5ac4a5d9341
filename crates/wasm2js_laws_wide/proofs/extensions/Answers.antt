use Rattle.wasm2js_laws_wide.proofs.Extended.{extensions_compute}
use Rattle.wasm2js_laws_wide.proofs.extensions.Goals as goal

pub returns : goal.returns
returns c = extensions_compute

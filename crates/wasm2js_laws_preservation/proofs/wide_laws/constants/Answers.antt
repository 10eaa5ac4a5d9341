use Rattle.wasm2js_laws_preservation.proofs.WideExtending.{constant_is}
use Rattle.wasm2js_laws_preservation.proofs.wide_laws.constants.Goals as goal

pub returns : goal.returns
returns c = constant_is

use Rattle.wasm2js_laws_preservation.proofs.PlainConstant.{constant_is}
use Rattle.wasm2js_laws_preservation.proofs.plain_laws.constants.Goals as goal

pub returns : goal.returns
returns c = constant_is

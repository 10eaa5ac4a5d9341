use Rattle.wasm2js_laws_preservation.proofs.LoadsLoaded.{loads_are_read}
use Rattle.wasm2js_laws_preservation.proofs.loads_laws.loads.Goals as goal

pub returns : goal.returns
returns c = loads_are_read

use Rattle.wasm2js_laws_preservation.proofs.StoresStoring.{stores_are_written}
use Rattle.wasm2js_laws_preservation.proofs.stores_laws.stores.Goals as goal

pub returns : goal.returns
returns c = stores_are_written

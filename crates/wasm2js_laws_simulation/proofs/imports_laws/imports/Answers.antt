use Rattle.wasm2js_laws_simulation.proofs.ImportsFollowing.{imported_follow}
use Rattle.wasm2js_laws_simulation.proofs.imports_laws.imports.Goals as goal

pub returns : goal.returns
returns c = imported_follow

use Rattle.wasm2js_laws_simulation.proofs.ImportsFollowing.{all_follow}
use Rattle.wasm2js_laws_simulation.proofs.imports_laws.all_calls.Goals as goal

pub returns : goal.returns
returns c = all_follow

use Rattle.wasm2js_laws_simulation.proofs.StartInit.{init_follows}
use Rattle.wasm2js_laws_simulation.proofs.start_laws.session_start.Goals as goal

pub returns : goal.returns
returns c = init_follows

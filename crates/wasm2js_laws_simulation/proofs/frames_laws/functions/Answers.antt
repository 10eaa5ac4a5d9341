use Rattle.wasm2js_laws_simulation.proofs.FramesDepths.{functions_follow}
use Rattle.wasm2js_laws_simulation.proofs.frames_laws.functions.Goals as goal

pub returns : goal.returns
returns c = functions_follow

use Rattle.wasm2js_laws_simulation.proofs.FramesHelped.{bodies_are_helped}
use Rattle.wasm2js_laws_simulation.proofs.frames_laws.bodies.Goals as goal

pub returns : goal.returns
returns c = bodies_are_helped

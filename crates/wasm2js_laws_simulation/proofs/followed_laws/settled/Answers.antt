use Rattle.wasm2js_laws_simulation.proofs.FollowedBodies.{settled_calls_follow}
use Rattle.wasm2js_laws_simulation.proofs.followed_laws.settled.Goals as goal

pub returns : goal.returns
returns c = settled_calls_follow

use Rattle.wasm2js_laws_simulation.proofs.FollowedHosts.{hosted_calls_are_followed, unmoved_calls_are_followed}
use Rattle.wasm2js_laws_simulation.proofs.followed_laws.hosted.Goals as goal

pub returns-clause-moving : goal.returns-clause-moving
returns-clause-moving c = hosted_calls_are_followed

pub returns-clause-unmoved : goal.returns-clause-unmoved
returns-clause-unmoved c = unmoved_calls_are_followed

use Rattle.wasm2js_laws_simulation.proofs.HelpingCalled.{helpers_help}
use Rattle.wasm2js_laws_simulation.proofs.HelpingStanding.{bodies_help}
use Rattle.wasm2js_laws_simulation.proofs.helping_laws.calls.Goals as goal

pub returns-clause-any : goal.returns-clause-any
returns-clause-any c = helpers_help

pub returns-clause-bodies : goal.returns-clause-bodies
returns-clause-bodies c = bodies_help

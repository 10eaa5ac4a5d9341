use Rattle.wasm2js_laws_simulation.proofs.HostCalls.{host_calls_follow}
use Rattle.wasm2js_laws_simulation.proofs.host_laws.host_calls.Goals as goal

pub returns : goal.returns
returns c = host_calls_follow

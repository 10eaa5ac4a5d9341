use Rattle.wasm_laws_sound.proofs.Hosts.{host_calls_are_typed}
use Rattle.wasm_laws_sound.proofs.laws.host_calls_go_on.Goals as goal

pub returns : goal.returns
returns c = host_calls_are_typed

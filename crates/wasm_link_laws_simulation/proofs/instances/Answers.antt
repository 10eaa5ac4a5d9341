use Rattle.wasm_link_laws_simulation.proofs.Instantiated.{instances_are_alike}
use Rattle.wasm_link_laws_simulation.proofs.instances.Goals as goal

pub returns : goal.returns
returns c = record { alike = instances_are_alike }

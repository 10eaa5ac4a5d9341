use Rattle.wasm2js_laws_simulation.proofs.InstancesGlobals.{globals_begin}
use Rattle.wasm2js_laws_simulation.proofs.InstancesHeld.{stores_are_held}
use Rattle.wasm2js_laws_simulation.proofs.instances_laws.stores.Goals as goal

pub returns-clause-globals : goal.returns-clause-globals
returns-clause-globals c = globals_begin

pub returns-clause-held : goal.returns-clause-held
returns-clause-held c = stores_are_held c.masked_tables.ensures.entries

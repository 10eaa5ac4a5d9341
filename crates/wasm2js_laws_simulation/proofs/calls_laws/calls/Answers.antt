use Rattle.wasm2js_laws_simulation.proofs.CallsCalling.{calls_are_kept}
use Rattle.wasm2js_laws_simulation.proofs.CallsEntries.{indirect_calls_are_kept}
use Rattle.wasm2js_laws_simulation.proofs.calls_laws.calls.Goals as goal

pub returns-clause-by_number : goal.returns-clause-by_number
returns-clause-by_number c = calls_are_kept

pub returns-clause-by_entry : goal.returns-clause-by_entry
returns-clause-by_entry c = indirect_calls_are_kept

use Rattle.wasm2js_laws_typed.proofs.FineCalls.{calls_are_fine, entry_calls_are_fine}
use Rattle.wasm2js_laws_typed.proofs.calls.Goals as goal

pub returns-clause-functions : goal.returns-clause-functions
returns-clause-functions c = calls_are_fine

pub returns-clause-entries : goal.returns-clause-entries
returns-clause-entries c = entry_calls_are_fine

use Rattle.wasm_link_laws_simulation.proofs.Law.{linked_is_allowed, linked_is_bounded}
use Rattle.wasm_link_laws_simulation.proofs.sessions.Goals as goal

pub returns-clause-allowed : goal.returns-clause-allowed
returns-clause-allowed c = linked_is_allowed

pub returns-clause-bounded : goal.returns-clause-bounded
returns-clause-bounded c = linked_is_bounded

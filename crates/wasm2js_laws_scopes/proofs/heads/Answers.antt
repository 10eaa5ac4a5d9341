use Rattle.wasm2js_laws_scopes.proofs.HeadNames.{heads_are_provided, memories_are_provided}
use Rattle.wasm2js_laws_scopes.proofs.heads.Goals as goal

pub returns-clause-head : goal.returns-clause-head
returns-clause-head c = heads_are_provided

pub returns-clause-memory : goal.returns-clause-memory
returns-clause-memory c = memories_are_provided

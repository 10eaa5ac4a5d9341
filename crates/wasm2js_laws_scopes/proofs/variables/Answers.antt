use Rattle.wasm2js_laws_scopes.proofs.Declared.{room_is_declared, module_names_are_seen, variables_are_own}
use Rattle.wasm2js_laws_scopes.proofs.variables.Goals as goal

pub returns-clause-declared : goal.returns-clause-declared
returns-clause-declared c = room_is_declared

pub returns-clause-own : goal.returns-clause-own
returns-clause-own c = variables_are_own

pub returns-clause-seen : goal.returns-clause-seen
returns-clause-seen c = module_names_are_seen

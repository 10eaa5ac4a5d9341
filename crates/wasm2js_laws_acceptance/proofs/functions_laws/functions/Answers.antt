use Rattle.wasm2js_laws_acceptance.proofs.functions_laws.functions.Goals as goal
use Rattle.wasm2js_laws_acceptance.proofs.FunctionsOwnFunctions.{own_functions_are_fine}
use Rattle.wasm2js_laws_acceptance.proofs.FunctionsWrapping.{wrappers_are_fine}

pub returns-clause-own : goal.returns-clause-own
returns-clause-own c = own_functions_are_fine

pub returns-clause-wrappers : goal.returns-clause-wrappers
returns-clause-wrappers c = wrappers_are_fine

use Rattle.wasm2js_laws_acceptance.proofs.functions_laws.further.Goals as goal
use Rattle.wasm2js_laws_acceptance.proofs.FunctionsStubs.{stubs_are_fine, high_is_fine}
use Rattle.wasm2js_laws_acceptance.proofs.FunctionsHelperBodies.{helpers_are_fine}
use Rattle.wasm2js_laws_acceptance.proofs.FunctionsStarting.{init_is_fine}

pub returns-clause-helpers : goal.returns-clause-helpers
returns-clause-helpers c = helpers_are_fine

pub returns-clause-stubs : goal.returns-clause-stubs
returns-clause-stubs c = stubs_are_fine

pub returns-clause-init : goal.returns-clause-init
returns-clause-init c = init_is_fine

pub returns-clause-high : goal.returns-clause-high
returns-clause-high c = high_is_fine

use Rattle.wasm2js_laws_acceptance.proofs.ProvidedGlobals.{globals_are_provided}
use Rattle.wasm2js_laws_acceptance.proofs.ProvidedFunctions.{functions_are_provided}
use Rattle.wasm2js_laws_acceptance.proofs.ProvidedForeign.{foreign_are_provided, high_is_foreign}
use Rattle.wasm2js_laws_acceptance.proofs.provided_laws.meanings.Goals as goal

pub returns-clause-globals : goal.returns-clause-globals
returns-clause-globals c = globals_are_provided

pub returns-clause-functions : goal.returns-clause-functions
returns-clause-functions c = functions_are_provided

pub returns-clause-foreign : goal.returns-clause-foreign
returns-clause-foreign c = foreign_are_provided

pub returns-clause-high : goal.returns-clause-high
returns-clause-high c = high_is_foreign

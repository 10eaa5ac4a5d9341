use Rattle.wasm2js_laws_acceptance.proofs.NamesOwn.{functions_have_no_rows}
use Rattle.wasm2js_laws_acceptance.proofs.NamesMembers.{tables_have_no_rows}
use Rattle.wasm2js_laws_acceptance.proofs.NamesKeys.{exports_have_no_rows}
use Rattle.wasm2js_laws_acceptance.proofs.NamesVariables.{variables_have_no_rows}
use Rattle.wasm2js_laws_acceptance.proofs.names_laws.declarations.Goals as goal

pub returns-clause-functions : goal.returns-clause-functions
returns-clause-functions c = functions_have_no_rows

pub returns-clause-tables : goal.returns-clause-tables
returns-clause-tables c = tables_have_no_rows

pub returns-clause-exports : goal.returns-clause-exports
returns-clause-exports c = exports_have_no_rows

pub returns-clause-variables : goal.returns-clause-variables
returns-clause-variables c = variables_have_no_rows

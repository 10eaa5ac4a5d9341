use Rattle.wasm2js_laws_acceptance.proofs.Parts.Whole.{translations_have_functions}
use Rattle.wasm2js_laws_acceptance.proofs.Parts.Tabling.{translations_have_tables}
use Rattle.wasm2js_laws_acceptance.proofs.Parts.Importing.{translations_have_imports}
use Rattle.wasm2js_laws_acceptance.proofs.parts_laws.parts.Goals as goal

pub returns-clause-functions : goal.returns-clause-functions
returns-clause-functions c = translations_have_functions

pub returns-clause-tables : goal.returns-clause-tables
returns-clause-tables c = translations_have_tables

pub returns-clause-imports : goal.returns-clause-imports
returns-clause-imports c = translations_have_imports

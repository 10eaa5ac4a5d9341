use Rattle.asm2wasm_laws_acceptance.proofs.Imports.{functions_are_counted, functions_are_as_many, functions_have_types, imports_have_types}
use Rattle.asm2wasm_laws_acceptance.proofs.functions.Goals as goal

pub returns-clause-counted : goal.returns-clause-counted
returns-clause-counted c = functions_are_counted

pub returns-clause-own : goal.returns-clause-own
returns-clause-own c = functions_have_types

pub returns-clause-imported : goal.returns-clause-imported
returns-clause-imported c = imports_have_types

pub returns-clause-as_many : goal.returns-clause-as_many
returns-clause-as_many c = functions_are_as_many

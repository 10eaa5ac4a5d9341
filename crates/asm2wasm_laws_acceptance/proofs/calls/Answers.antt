use Rattle.asm2wasm_laws_acceptance.proofs.Callees.{functions_are_called, imports_are_called, tables_are_filled}
use Rattle.asm2wasm_laws_acceptance.proofs.Made.{calls_are_made}
use Rattle.asm2wasm_laws_acceptance.proofs.calls.Goals as goal

pub returns-clause-functions : goal.returns-clause-functions
returns-clause-functions c = functions_are_called c.spellings.ensures.again

pub returns-clause-imports : goal.returns-clause-imports
returns-clause-imports c = imports_are_called

pub returns-clause-table : goal.returns-clause-table
returns-clause-table c = tables_are_filled

pub returns-clause-made : goal.returns-clause-made
returns-clause-made c = calls_are_made c.spellings.ensures.again c.tables_end_to_end.ensures

use Rattle.wasm2js_lang.proofs.Masked.{called_types_have_tables, cells_are_of_entries}
use Rattle.wasm2js_lang.proofs.Padded.{cells_are_padded}
use Rattle.wasm2js_lang.proofs.Instantiated.{entries_are_the_table}
use Rattle.wasm2js_lang.proofs.masked_tables.Goals as goal

pub returns-clause-found : goal.returns-clause-found
returns-clause-found c = called_types_have_tables

pub returns-clause-cells : goal.returns-clause-cells
returns-clause-cells c = cells_are_of_entries

pub returns-clause-padded : goal.returns-clause-padded
returns-clause-padded c = cells_are_padded

pub returns-clause-entries : goal.returns-clause-entries
returns-clause-entries c = entries_are_the_table

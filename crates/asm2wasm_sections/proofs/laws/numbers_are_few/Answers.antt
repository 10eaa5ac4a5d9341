use Rattle.asm2wasm_sections.proofs.Few.{few_types, few_functions, few_entries, few_globals}
use Rattle.asm2wasm_sections.proofs.laws.numbers_are_few.Goals as goal

pub returns-clause-types : goal.returns-clause-types
returns-clause-types c = few_types

pub returns-clause-functions : goal.returns-clause-functions
returns-clause-functions c = few_functions

pub returns-clause-entries : goal.returns-clause-entries
returns-clause-entries c = few_entries

pub returns-clause-globals : goal.returns-clause-globals
returns-clause-globals c = few_globals

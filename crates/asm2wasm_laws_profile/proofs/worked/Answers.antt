use Rattle.asm2wasm_laws_profile.proofs.Examples.{loops_are_small, elements_are_small, switches_are_not, tables_are_not}
use Rattle.asm2wasm_laws_profile.proofs.worked.Goals as goal

pub returns-clause-loops : goal.returns-clause-loops
returns-clause-loops c = loops_are_small

pub returns-clause-elements : goal.returns-clause-elements
returns-clause-elements c = elements_are_small

pub returns-clause-switches : goal.returns-clause-switches
returns-clause-switches c = switches_are_not

pub returns-clause-tables : goal.returns-clause-tables
returns-clause-tables c = tables_are_not

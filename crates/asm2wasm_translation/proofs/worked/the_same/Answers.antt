use Rattle.asm2wasm_translation.proofs.Sessions.{elements_are_alike, many_are_alike}
use Rattle.asm2wasm_translation.proofs.worked.the_same.Goals as goal

pub returns-clause-elements : goal.returns-clause-elements
returns-clause-elements c = elements_are_alike

pub returns-clause-many_clauses : goal.returns-clause-many_clauses
returns-clause-many_clauses c = many_are_alike

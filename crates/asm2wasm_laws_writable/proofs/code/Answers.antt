use Rattle.asm2wasm_laws_writable.proofs.Named.{typed_names_are_below}
use Rattle.asm2wasm_laws_writable.proofs.Clauses.{clauses_are_few}
use Rattle.asm2wasm_laws_writable.proofs.Constants.{constants_fit}
use Rattle.asm2wasm_laws_writable.proofs.Narrow.{functions_are_narrow}
use Rattle.asm2wasm_laws_writable.proofs.code.Goals as goal

pub returns-clause-typed : goal.returns-clause-typed
returns-clause-typed c = typed_names_are_below

pub returns-clause-clauses : goal.returns-clause-clauses
returns-clause-clauses c = clauses_are_few

pub returns-clause-constants : goal.returns-clause-constants
returns-clause-constants c = constants_fit c.heap_lengths.ensures.few c.heap_lengths.ensures.hold

pub returns-clause-narrow : goal.returns-clause-narrow
returns-clause-narrow c = functions_are_narrow c.spellings.ensures.again c.spellings.ensures.levels c.heap_lengths.ensures.few c.heap_lengths.ensures.hold

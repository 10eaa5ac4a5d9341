use Rattle.asm2wasm_laws_typed.proofs.Said.{labels_are_joined, uses_are_listed}
use Rattle.asm2wasm_laws_typed.proofs.texts.Goals as goal

pub returns-clause-labels : goal.returns-clause-labels
returns-clause-labels c = labels_are_joined

pub returns-clause-uses : goal.returns-clause-uses
returns-clause-uses c = uses_are_listed

use Rattle.wasm2js_laws_typed.proofs.FineJumps.{labels_are_new, returns_are_fine, jumps_are_fine}
use Rattle.wasm2js_laws_typed.proofs.jumps.Goals as goal

pub returns-clause-labels : goal.returns-clause-labels
returns-clause-labels c = labels_are_new

pub returns-clause-returned : goal.returns-clause-returned
returns-clause-returned c = returns_are_fine

pub returns-clause-branches : goal.returns-clause-branches
returns-clause-branches c = jumps_are_fine

use Rattle.wasm2js_translation.proofs.Sessions.{many_labels_are_alike}
use Rattle.wasm2js_translation.proofs.worked.branches.Goals as goal

pub returns-clause-many_labels : goal.returns-clause-many_labels
returns-clause-many_labels c = many_labels_are_alike

use Rattle.wasm_laws_trees.proofs.Checked.{typed_is_valid}
use Rattle.wasm_laws_trees.proofs.validity.Goals as goal

pub returns : goal.returns
returns c = typed_is_valid

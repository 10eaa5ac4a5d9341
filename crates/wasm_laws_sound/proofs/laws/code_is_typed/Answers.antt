use Rattle.wasm_laws_sound.proofs.Nesting.{tree_is_typed}
use Rattle.wasm_laws_sound.proofs.laws.code_is_typed.Goals as goal

pub returns : goal.returns
returns c = tree_is_typed

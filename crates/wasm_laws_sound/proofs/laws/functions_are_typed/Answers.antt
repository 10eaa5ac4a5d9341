use Rattle.wasm_laws_sound.proofs.Functions.{spelled_are_whole, functions_are_typed}
use Rattle.wasm_laws_sound.proofs.laws.functions_are_typed.Goals as goal

pub returns-clause-whole : goal.returns-clause-whole
returns-clause-whole c = spelled_are_whole

pub returns-clause-typed : goal.returns-clause-typed
returns-clause-typed c = functions_are_typed

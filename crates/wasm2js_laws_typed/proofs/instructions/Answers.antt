use Rattle.wasm2js_laws_typed.proofs.ShallowPlain.{plain_is_shallow}
use Rattle.wasm2js_laws_typed.proofs.SoundPlain.{plain_is_sound}
use Rattle.wasm2js_laws_typed.proofs.instructions.Goals as goal

pub returns-clause-sound : goal.returns-clause-sound
returns-clause-sound c = plain_is_sound

pub returns-clause-shallow : goal.returns-clause-shallow
returns-clause-shallow c = plain_is_shallow

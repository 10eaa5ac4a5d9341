use Rattle.wasm2js_laws_typed.proofs.LateSound.{late_sound, written_is_sound, standing_sound}
use Rattle.wasm2js_laws_typed.proofs.LateShallow.{late_shallow}
use Rattle.wasm2js_laws_typed.proofs.LeanSound.{lean_sound}
use Rattle.wasm2js_laws_typed.proofs.LeanShallow.{lean_shallow}
use Rattle.wasm2js_laws_typed.proofs.waiting.Goals as goal

pub returns-clause-sound : goal.returns-clause-sound
returns-clause-sound c = late_sound

pub returns-clause-shallow : goal.returns-clause-shallow
returns-clause-shallow c = late_shallow

pub returns-clause-lean_sound : goal.returns-clause-lean_sound
returns-clause-lean_sound c = lean_sound

pub returns-clause-lean_shallow : goal.returns-clause-lean_shallow
returns-clause-lean_shallow c = lean_shallow

pub returns-clause-written : goal.returns-clause-written
returns-clause-written c = written_is_sound

pub returns-clause-standing : goal.returns-clause-standing
returns-clause-standing c = standing_sound

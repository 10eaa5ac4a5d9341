use Rattle.wasm2js_laws_preservation.proofs.PlainTurned.{rotation_left_is, rotation_right_is}
use Rattle.wasm2js_laws_preservation.proofs.plain_laws.turns.Goals as goal

pub returns-clause-rotation_left : goal.returns-clause-rotation_left
returns-clause-rotation_left c = rotation_left_is

pub returns-clause-rotation_right : goal.returns-clause-rotation_right
returns-clause-rotation_right c = rotation_right_is

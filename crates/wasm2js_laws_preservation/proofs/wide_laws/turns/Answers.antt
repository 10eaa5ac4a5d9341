use Rattle.wasm2js_laws_preservation.proofs.WideTurned.{shift_left_is, shift_right_signed_is, shift_right_is, rotation_left_is, rotation_right_is}
use Rattle.wasm2js_laws_preservation.proofs.wide_laws.turns.Goals as goal

pub returns-clause-shift_left : goal.returns-clause-shift_left
returns-clause-shift_left c = shift_left_is

pub returns-clause-shift_right_signed : goal.returns-clause-shift_right_signed
returns-clause-shift_right_signed c = shift_right_signed_is

pub returns-clause-shift_right : goal.returns-clause-shift_right
returns-clause-shift_right c = shift_right_is

pub returns-clause-rotation_left : goal.returns-clause-rotation_left
returns-clause-rotation_left c = rotation_left_is

pub returns-clause-rotation_right : goal.returns-clause-rotation_right
returns-clause-rotation_right c = rotation_right_is

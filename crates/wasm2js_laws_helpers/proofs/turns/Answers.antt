use Rattle.wasm2js_laws_helpers.proofs.Turned.{shift_left_helps, shift_right_signed_helps, shift_right_helps}
use Rattle.wasm2js_laws_helpers.proofs.Rotated.{rotate_left_helps}
use Rattle.wasm2js_laws_helpers.proofs.turns.Goals as goal

pub returns-clause-left : goal.returns-clause-left
returns-clause-left c = shift_left_helps

pub returns-clause-right_signed : goal.returns-clause-right_signed
returns-clause-right_signed c = shift_right_signed_helps

pub returns-clause-right : goal.returns-clause-right
returns-clause-right c = shift_right_helps

pub returns-clause-rotation : goal.returns-clause-rotation
returns-clause-rotation c = rotate_left_helps

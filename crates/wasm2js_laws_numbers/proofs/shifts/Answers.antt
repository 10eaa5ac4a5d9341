use Rattle.wasm2js_laws_numbers.proofs.Shifted.{shifts_left, shifts_right}
use Rattle.wasm2js_laws_numbers.proofs.Signed.{shifts_right_signed}
use Rattle.wasm2js_laws_numbers.proofs.shifts.Goals as goal

pub returns-clause-left : goal.returns-clause-left
returns-clause-left c = shifts_left

pub returns-clause-right : goal.returns-clause-right
returns-clause-right c = shifts_right

pub returns-clause-right_signed : goal.returns-clause-right_signed
returns-clause-right_signed c = shifts_right_signed

use Rattle.wasm2js_laws_numbers.proofs.Shifted.{rotations_left, rotations_right, narrow_rotations_left, narrow_rotations_right}
use Rattle.wasm2js_laws_numbers.proofs.rotations.Goals as goal

pub returns-clause-left : goal.returns-clause-left
returns-clause-left c = rotations_left

pub returns-clause-right : goal.returns-clause-right
returns-clause-right c = rotations_right

pub returns-clause-narrow_left : goal.returns-clause-narrow_left
returns-clause-narrow_left c = narrow_rotations_left

pub returns-clause-narrow_right : goal.returns-clause-narrow_right
returns-clause-narrow_right c = narrow_rotations_right

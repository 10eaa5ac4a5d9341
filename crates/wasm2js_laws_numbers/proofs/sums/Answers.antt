use Rattle.wasm2js_laws_numbers.proofs.Carried.{sums_carry, differences_borrow}
use Rattle.wasm2js_laws_numbers.proofs.sums.Goals as goal

pub returns-clause-sum : goal.returns-clause-sum
returns-clause-sum c = sums_carry

pub returns-clause-difference : goal.returns-clause-difference
returns-clause-difference c = differences_borrow

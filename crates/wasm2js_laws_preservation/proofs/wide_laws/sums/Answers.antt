use Rattle.wasm2js_laws_preservation.proofs.WideSummed.{sum_is}
use Rattle.wasm2js_laws_preservation.proofs.WideBitwise.{difference_is}
use Rattle.wasm2js_laws_preservation.proofs.wide_laws.sums.Goals as goal

pub returns-clause-sum : goal.returns-clause-sum
returns-clause-sum c = sum_is

pub returns-clause-difference : goal.returns-clause-difference
returns-clause-difference c = difference_is

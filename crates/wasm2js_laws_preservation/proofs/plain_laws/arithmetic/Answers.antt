use Rattle.wasm2js_laws_preservation.proofs.PlainSummed.{sum_is, difference_is, product_is}
use Rattle.wasm2js_laws_preservation.proofs.plain_laws.arithmetic.Goals as goal

pub returns-clause-sum : goal.returns-clause-sum
returns-clause-sum c = sum_is

pub returns-clause-difference : goal.returns-clause-difference
returns-clause-difference c = difference_is

pub returns-clause-product : goal.returns-clause-product
returns-clause-product c = product_is

use Rattle.wasm2js_laws_numbers.proofs.Counted.{leading_zeros, trailing_zeros, set_bits, narrow_trailing_zeros}
use Rattle.wasm2js_laws_numbers.proofs.counts.Goals as goal

pub returns-clause-leading : goal.returns-clause-leading
returns-clause-leading c = leading_zeros

pub returns-clause-trailing : goal.returns-clause-trailing
returns-clause-trailing c = trailing_zeros

pub returns-clause-set : goal.returns-clause-set
returns-clause-set c = set_bits

pub returns-clause-narrow_trailing : goal.returns-clause-narrow_trailing
returns-clause-narrow_trailing c = narrow_trailing_zeros

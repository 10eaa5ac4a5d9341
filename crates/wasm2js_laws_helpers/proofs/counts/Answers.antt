use Rattle.wasm2js_laws_helpers.proofs.Zeros.{leading_zeros_help, trailing_zeros_help}
use Rattle.wasm2js_laws_helpers.proofs.Bits.{set_bits_help, few_units}
use Rattle.wasm2js_laws_helpers.proofs.counts.Goals as goal

pub returns-clause-leading : goal.returns-clause-leading
returns-clause-leading c = leading_zeros_help

pub returns-clause-trailing : goal.returns-clause-trailing
returns-clause-trailing c = trailing_zeros_help

pub returns-clause-set : goal.returns-clause-set
returns-clause-set c = set_bits_help

pub returns-clause-few : goal.returns-clause-few
returns-clause-few c = few_units

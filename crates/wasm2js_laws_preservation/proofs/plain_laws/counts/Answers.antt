use Rattle.wasm2js_laws_preservation.proofs.PlainTurned.{leading_zeros_is, trailing_zeros_is}
use Rattle.wasm2js_laws_preservation.proofs.PlainAsked.{set_bits_is}
use Rattle.wasm2js_laws_preservation.proofs.plain_laws.counts.Goals as goal

pub returns-clause-leading : goal.returns-clause-leading
returns-clause-leading c = leading_zeros_is

pub returns-clause-trailing : goal.returns-clause-trailing
returns-clause-trailing c = trailing_zeros_is

pub returns-clause-set : goal.returns-clause-set
returns-clause-set c = set_bits_is

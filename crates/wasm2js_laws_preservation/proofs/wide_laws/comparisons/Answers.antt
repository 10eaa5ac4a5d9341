use Rattle.wasm2js_laws_preservation.proofs.WideCompared.{comparison_is, zero_is}
use Rattle.wasm2js_laws_preservation.proofs.wide_laws.comparisons.Goals as goal

pub returns-clause-each : goal.returns-clause-each
returns-clause-each c = comparison_is

pub returns-clause-zero : goal.returns-clause-zero
returns-clause-zero c = zero_is

use Rattle.wasm2js_laws_preservation.proofs.WideBitwise.{conjunction_is, disjunction_is, exclusion_is}
use Rattle.wasm2js_laws_preservation.proofs.wide_laws.bits.Goals as goal

pub returns-clause-conjunction : goal.returns-clause-conjunction
returns-clause-conjunction c = conjunction_is

pub returns-clause-disjunction : goal.returns-clause-disjunction
returns-clause-disjunction c = disjunction_is

pub returns-clause-exclusion : goal.returns-clause-exclusion
returns-clause-exclusion c = exclusion_is

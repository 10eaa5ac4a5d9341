use Rattle.wasm2js_laws_numbers.proofs.Extended.{conjunctions, disjunctions, exclusions}
use Rattle.wasm2js_laws_numbers.proofs.bits.Goals as goal

pub returns-clause-conjunction : goal.returns-clause-conjunction
returns-clause-conjunction c = conjunctions

pub returns-clause-disjunction : goal.returns-clause-disjunction
returns-clause-disjunction c = disjunctions

pub returns-clause-exclusion : goal.returns-clause-exclusion
returns-clause-exclusion c = exclusions

use Rattle.wasm2js_laws_acceptance.proofs.LimitsMarking.{counts_are_few}
use Rattle.wasm2js_laws_acceptance.proofs.LimitsNaming.{names_are_short}
use Rattle.wasm2js_laws_acceptance.proofs.limits_laws.counts.Goals as goal

pub returns-clause-few : goal.returns-clause-few
returns-clause-few c = counts_are_few

pub returns-clause-short : goal.returns-clause-short
returns-clause-short c = names_are_short

use Rattle.wasm2js_laws_acceptance.proofs.LimitsMarking.{limits_hold}
use Rattle.wasm2js_laws_acceptance.proofs.limits_laws.limits.Goals as goal

pub returns : goal.returns
returns c = limits_hold

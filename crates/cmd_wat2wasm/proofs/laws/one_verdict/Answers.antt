use Rattle.cmd_wat2wasm.proofs.Once.{not_both, one_refusal}
use Rattle.cmd_wat2wasm.proofs.laws.one_verdict.Goals as goal

pub returns-clause-not_both : goal.returns-clause-not_both
returns-clause-not_both c = not_both

pub returns-clause-one : goal.returns-clause-one
returns-clause-one c = one_refusal

use Rattle.wasm_lang_valid.proofs.Judged.{judged}
use Rattle.wasm_lang_valid.proofs.Once.{not_refused, one_answer}
use Rattle.wasm_lang_valid.proofs.laws.refusal_laws.Goals as goal

pub returns-clause-some : goal.returns-clause-some
returns-clause-some c = judged

pub returns-clause-not_both : goal.returns-clause-not_both
returns-clause-not_both c = not_refused

pub returns-clause-one : goal.returns-clause-one
returns-clause-one c = one_answer

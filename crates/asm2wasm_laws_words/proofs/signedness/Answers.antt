use Rattle.asm2wasm_laws_words.proofs.Formed.{form_says_type, alike_by_one}
use Rattle.asm2wasm_laws_words.proofs.signedness.Goals as goal

pub returns-clause-form : goal.returns-clause-form
returns-clause-form c = form_says_type

pub returns-clause-both : goal.returns-clause-both
returns-clause-both c = alike_by_one

use Rattle.asm_lang_tokens.proofs.Readings.{same_reading, reading_of}
use Rattle.asm_lang_tokens.proofs.readings_of_a_text.Goals as goal

pub returns-clause-some : goal.returns-clause-some
returns-clause-some c = reading_of

pub returns-clause-one : goal.returns-clause-one
returns-clause-one c = λ source r s h k. same_reading h k

use Rattle.std.proofs.Common.{sym, ◌∙◌}
use Rattle.wat_laws_grammar.specs.Judging.{cut_text}
use Rattle.wat_laws_grammar.proofs.Readings.{reading_is_cut, cut_is_reading}
use Rattle.wat_laws_grammar.proofs.readings_of_a_text.Goals as goal

pub returns-clause-some : goal.returns-clause-some
returns-clause-some c = λ text. (cut_text 0 0 text, cut_is_reading text)

pub returns-clause-one : goal.returns-clause-one
returns-clause-one c = λ text r s h k. sym (reading_is_cut h) ∙ reading_is_cut k

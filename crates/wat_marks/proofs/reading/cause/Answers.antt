use Rattle.std.proofs.Common.{sym, ◌∙◌}
use Rattle.wat_marks.specs.Views.{fault_behind, word_behind, break_there}
use Rattle.wat_marks.proofs.reading.cause.Goals as goal

pub returns-in-Err : goal.returns-in-Err
returns-in-Err c = fault_behind c.in-Err.ensures.fault

pub returns-in-Ok-Some : goal.returns-in-Ok-Some
returns-in-Ok-Some c = word_behind c.in-Ok-Some.ensures.found.1 (sym c.in-Ok-Some.ensures.found.2 ∙ c.in-Ok-Some.field-0-is)

pub returns-in-Ok-None : goal.returns-in-Ok-None
returns-in-Ok-None c = break_there c.in-Ok-None.ensures.found.1 (sym c.in-Ok-None.ensures.found.2 ∙ c.in-Ok-None.field-0-is)

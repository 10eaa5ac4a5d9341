use Rattle.wat_marks.specs.Views.{first_fault, word_there}
use Rattle.wat_marks.proofs.reading.outside_cause.Goals as goal

pub returns-in-Some : goal.returns-in-Some
returns-in-Some c = first_fault c.in-Some.ensures

pub returns-in-None : goal.returns-in-None
returns-in-None c = word_there c.in-None.ensures.1

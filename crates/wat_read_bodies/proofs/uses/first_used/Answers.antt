use Rattle.wat_marks.specs.Views.{marked_of}
use Rattle.wat_read_tokens.specs.Marks.{marks_of}
use Rattle.wat_read_bodies.proofs.Good.{first_number, no_number}
use Rattle.wat_read_bodies.proofs.uses.first_used.Goals as goal

pub returns-in-Some : goal.returns-in-Some
returns-in-Some c = first_number c.args.ids.now c.args.space (marks_of c.args.parts.now) (marked_of c.in-Some.token.now) _ c.in-Some.ensures.found c.number.ensures

pub returns-in-None : goal.returns-in-None
returns-in-None c = no_number c.args.ids.now c.args.space (marks_of c.args.parts.now) c.in-None.ensures.found

use Rattle.std.proofs.Common.{ap, ◌∙◌}
use Rattle.std.specs.Prelude.{codes}
use Rattle.wat_lang.specs.Numbers.{access_of}
use Rattle.wat_lang.specs.Modules.{exponent_of}
use Rattle.wat_grammar.specs.Views.{mark_of}
use Rattle.wat_marks.specs.Views.{marked_of}
use Rattle.wat_read_tokens.specs.Marks.{marks_of}
use Rattle.wat_read_bodies.proofs.Atoms.{alignment_reads}
use Rattle.wat_read_bodies.proofs.Written.{align_written, align_natural}
use Rattle.wat_read_bodies.proofs.immediates.exponent_by.Goals as goal

pub atom-requires : goal.atom-requires
atom-requires c = alignment_reads (mark_of c.in-Some.token.now.mark) c.in-Some.ensures.is_wanted

pub returns-in-Some : goal.returns-in-Some
returns-in-Some c =
    align_written c.args.op (marks_of c.args.parts.now) (marked_of c.in-Some.token.now) _ _ c.in-Some.ensures.found c.exponent_in.ensures
    (c.behind_key.ensures ∙ ap (access_of (codes "align=")) c.atom.ensures)

pub returns-in-None : goal.returns-in-None
returns-in-None c = align_natural c.args.op (marks_of c.args.parts.now) _ c.in-None.ensures.found (c.exponent_of.ensures ∙ ap exponent_of c.from.ensures)

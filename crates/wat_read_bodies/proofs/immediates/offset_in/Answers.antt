use Rattle.std.proofs.Common.{◌≡◌, false, sym, ap, ◌∙◌, subst}
use Rattle.std.specs.Prelude.{Option, ℤ, codes}
use Rattle.wat_lang.specs.Numbers.{access_of}
use Rattle.wat_lang.specs.Rows.{is_out_32}
use Rattle.wat_grammar.specs.Views.{mark_of}
use Rattle.wat_marks.specs.Views.{marked_of}
use Rattle.wat_read_tokens.specs.Marks.{marks_of}
use Rattle.wat_read_bodies.proofs.Atoms.{offset_reads, offset_fits}
use Rattle.wat_read_bodies.proofs.Written.{offset_written, no_offset}
use Rattle.wat_read_bodies.proofs.immediates.offset_in.Goals as goal

pub atom-requires : goal.atom-requires
atom-requires c = offset_reads (mark_of c.in-Some.token.now.mark) c.in-Some.ensures.is_wanted

pub natural_in-requires : goal.natural_in-requires
natural_in-requires c =
    subst (λ (z : Option ℤ). is_out_32 z ≡ false) (sym (c.behind_key.ensures ∙ ap (access_of (codes "offset=")) c.atom.ensures))
    (offset_fits (marked_of c.in-Some.token.now) c.in-Some.ensures.is_wanted (c.in-Some.ensures.fits c.requires))

pub returns-in-Some-natural_in : goal.returns-in-Some-natural_in
returns-in-Some-natural_in c =
    offset_written (marks_of c.args.parts.now) (marked_of c.in-Some.token.now) c.in-Some-natural_in.number _ c.in-Some.ensures.found c.in-Some-natural_in.ensures
    (c.behind_key.ensures ∙ ap (access_of (codes "offset=")) c.atom.ensures)

pub returns-in-None : goal.returns-in-None
returns-in-None c = no_offset (marks_of c.args.parts.now) c.in-None.ensures.found

use Rattle.std.proofs.Common.{◌≡◌, ℕ, List, false, sym, ap, ◌∙◌, subst}
use Rattle.std.specs.Prelude.{option_and_then}
use Rattle.wat_lang.specs.Grammar.{Marked}
use Rattle.wat_lang.specs.Numbers.{number_of}
use Rattle.wat_lang.specs.Names.{text_of}
use Rattle.wat_lang.specs.Rows.{is_out_32}
use Rattle.wat_grammar.specs.Views.{mark_of}
use Rattle.wat_marks.specs.Views.{marked_of}
use Rattle.wat_read_bodies.proofs.Atoms.{natural_reads, natural_fits}
use Rattle.wat_read_bodies.proofs.immediates.optional_by.Goals as goal

pub atom-requires : goal.atom-requires
atom-requires c = natural_reads c.args.wanted (mark_of c.in-Some.token.now.mark) c.requires.natural c.in-Some.ensures.is_wanted

pub natural_in-requires : goal.natural_in-requires
natural_in-requires c =
    subst (λ (bs : List ℕ). is_out_32 (number_of bs) ≡ false) (sym c.atom.ensures)
    (natural_fits c.args.wanted (marked_of c.in-Some.token.now) c.requires.natural c.in-Some.ensures.is_wanted (c.in-Some.ensures.fits c.requires.fits))

pub returns-in-Some : goal.returns-in-Some
returns-in-Some c = c.natural_in.ensures ∙ ap number_of c.atom.ensures ∙ ap (option_and_then (λ (m : Marked). number_of (text_of m))) c.in-Some.ensures.found

pub returns-in-None : goal.returns-in-None
returns-in-None c = ap (option_and_then (λ (m : Marked). number_of (text_of m))) c.in-None.ensures.found

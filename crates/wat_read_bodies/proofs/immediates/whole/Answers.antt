use Rattle.std.proofs.Common.{◌≡◌, ℕ, List, false, sym, subst}
use Rattle.wat_lang.specs.Numbers.{number_of}
use Rattle.wat_lang.specs.Rows.{is_out}
use Rattle.wat_marks.specs.Views.{marked_of}
use Rattle.wat_read_tokens.specs.declared.numbers.Between.TheVariants.{Words64}
use Rattle.wat_read_tokens.specs.Between.{low_of, high_of}
use Rattle.wat_read_bodies.proofs.Atoms.{word_fits}
use Rattle.wat_read_bodies.proofs.immediates.whole.Goals as goal

pub whole_in-requires : goal.whole_in-requires
whole_in-requires c =
    subst (λ (bs : List ℕ). is_out (low_of Words64) (high_of Words64) (number_of bs) ≡ false) (sym c.atom.ensures)
    (word_fits (marked_of c.in-Some.token.now) c.in-Some.ensures.is_wanted (c.in-Some.ensures.fits c.requires))

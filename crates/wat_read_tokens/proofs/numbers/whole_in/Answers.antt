use Rattle.std.proofs.Common.{◌≡◌, false, sym, ap, ◌∙◌, subst}
use Rattle.std.specs.Prelude.{Option, ℤ}
use Rattle.wat_lang.specs.Rows.{is_out}
use Rattle.wat_read_tokens.specs.declared.numbers.Between.TheVariants.{Words64}
use Rattle.wat_read_tokens.specs.Between.{low_of, high_of}
use Rattle.wat_read_tokens.proofs.numbers.whole_in.Goals as goal

pub returns-in-None : goal.returns-in-None
returns-in-None c = sym c.in-None.ensures

pub returns-in-Some : goal.returns-in-Some
returns-in-Some c =
    let h = c.in-Some.ensures in
    c.whole.ensures h.0 h.2 (subst (λ (o : Option ℤ). is_out (low_of Words64) (high_of Words64) o ≡ false) h.1 c.requires) ∙ sym h.1

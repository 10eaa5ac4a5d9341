use Rattle.std.proofs.Common.{sym, ap, ◌∙◌}
use Rattle.std.specs.Prelude.{Option, ℤ}
use Rattle.wat_lang.specs.Rows.{is_out}
use Rattle.wat_read_tokens.specs.Between.{low_of, high_of}
use Rattle.wat_read_tokens.proofs.numbers.is_out.Goals as goal

pub returns-in-None : goal.returns-in-None
returns-in-None c = sym (ap (λ (o : Option ℤ). is_out (low_of c.args.between) (high_of c.args.between) o) c.in-None.ensures)

pub returns-in-Some : goal.returns-in-Some
returns-in-Some c =
    let h = c.in-Some.ensures in
    c.excludes.ensures h.0 h.2 ∙ sym (ap (λ (o : Option ℤ). is_out (low_of c.args.between) (high_of c.args.between) o) h.1)

use Rattle.std.proofs.Common.{sym, ap, ◌∙◌}
use Rattle.std.specs.Prelude.{Option, ℤ, ℕ, List, codes, is_none}
use Rattle.wat_lang.specs.Numbers.{access_of}
use Rattle.wat_lang.specs.Modules.{exponent_of, natural_or_0}
use Rattle.wat_read_refusals.proofs.Alignments.{alignment_tested, none_told}
use Rattle.wat_read_refusals.proofs.numbers.is_bad_number.Goals as goal

pub returns-in-Alignment : goal.returns-in-Alignment
returns-in-Alignment c =
    none_told c.is_none.result c.exponent_in.result c.is_none.ensures
    ∙ ap (λ (k : Option ℕ). is_none k) c.exponent_in.ensures
    ∙ ap (λ (z : Option ℤ). is_none (exponent_of (natural_or_0 z))) (c.behind_key-in-Alignment.ensures ∙ ap (λ (bs : List ℕ). access_of (codes "align=") bs) c.atom-in-Alignment.ensures)
    ∙ sym (alignment_tested c.args.token.now c.in-Alignment.is)

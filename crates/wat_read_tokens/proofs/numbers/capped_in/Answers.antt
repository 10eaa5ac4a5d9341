use Rattle.std.proofs.Common.{◌≡◌, Bool, sym, ap, ◌∙◌, subst}
use Rattle.std.specs.Prelude.{Option, Some, ℤ}
use Rattle.wat_lang.specs.Numbers.{number_of}
use Rattle.wat_read_tokens.specs.Between.{HasSign, capped}
use Rattle.wat_read_tokens.proofs.Numerals.{has_sign}
use Rattle.wat_read_tokens.proofs.numbers.capped_in.Goals as goal

pub returns-in-None : goal.returns-in-None
returns-in-None c = sym (ap capped c.in-None.ensures)

pub returns-in-Some : goal.returns-in-Some
returns-in-Some c =
    let h = c.in-Some.ensures in
    let sign : HasSign c.is_negative.result (number_of c.args.text.now) = subst (λ (b : Bool). HasSign b (number_of c.args.text.now)) (sym c.is_negative.ensures) (has_sign c.args.text.now) in
    c.capped.ensures h.0 h.2 (subst (λ (o : Option ℤ). HasSign c.is_negative.result o) h.1 sign) ∙ sym (ap capped h.1)

use mir.Syntax.{w128}
use Rattle.std.proofs.Common.{◌≡◌, false, sym, ap, ◌∙◌, subst, rules, FitsSigned}
use Rattle.std.proofs.lemmas.Bool.{false≢true}
use Rattle.std.proofs.lemmas.Int.{to_z-of_z}
use Rattle.std.specs.Prelude.{Some, ℤ}
use Rattle.wat_lang.specs.Rows.{is_out_32}
use Rattle.wat_tokens.specs.declared.numbers.Number.{Number}
use Rattle.wat_tokens.specs.Numbers.{IsNumber}
use Rattle.wat_read_tokens.specs.declared.numbers.Between.TheVariants.{Naturals}
use Rattle.wat_read_tokens.proofs.Numerals.{far_excluded}
use Rattle.wat_read_tokens.proofs.numbers.natural.Goals as goal

pub returns-in-Far : goal.returns-in-Far
returns-in-Far c = λ z h fits. absurd (false≢true (sym fits ∙ sym (far_excluded Naturals z (subst (λ (n : Number). IsNumber n z) c.in-Far.is h))))

pub returns-in-Whole : goal.returns-in-Whole
returns-in-Whole c = λ z h within.
    let fits : FitsSigned w128 c.in-Whole.value = search rules in
    let e = to_z-of_z w128 c.in-Whole.value fits ∙ subst (λ (n : Number). IsNumber n z) c.in-Whole.is h in
    c.small.ensures (subst (λ (v : ℤ). is_out_32 (Some v) ≡ false) (sym e) within) ∙ ap (λ (v : ℤ). Some v) e

use mir.Syntax.{w128}
use Rattle.std.proofs.Common.{sym, ap, ◌∙◌, subst, rules, FitsSigned}
use Rattle.std.proofs.lemmas.Int.{to_z-of_z}
use Rattle.std.specs.Prelude.{Some, ℤ}
use Rattle.wat_tokens.specs.declared.numbers.Number.{Number}
use Rattle.wat_tokens.specs.Numbers.{IsNumber}
use Rattle.wat_read_tokens.specs.Between as between
use Rattle.wat_read_tokens.proofs.Numerals.{far_capped}
use Rattle.wat_read_tokens.proofs.numbers.capped.Goals as goal

pub returns-in-Far : goal.returns-in-Far
returns-in-Far c = λ z h sign. c.far.ensures ∙ far_capped c.args.negative z (subst (λ (n : Number). IsNumber n z) c.in-Far.is h) sign

pub returns-in-Whole : goal.returns-in-Whole
returns-in-Whole c = λ z h sign.
    let fits : FitsSigned w128 c.in-Whole.value = search rules in
    c.cap.ensures ∙ ap (λ (v : ℤ). between.capped (Some v)) (to_z-of_z w128 c.in-Whole.value fits ∙ subst (λ (n : Number). IsNumber n z) c.in-Whole.is h)

use mir.Syntax.{w128}
use Rattle.std.proofs.Common.{not, sym, ap, ◌∙◌, subst, rules, FitsSigned}
use Rattle.std.proofs.lemmas.Int.{to_z-of_z}
use Rattle.wat_lang.specs.Rows.{is_between}
use Rattle.wat_tokens.specs.declared.numbers.Number.{Number}
use Rattle.wat_tokens.specs.Numbers.{IsNumber}
use Rattle.wat_read_tokens.specs.Between.{low_of, high_of}
use Rattle.wat_read_tokens.proofs.Numerals.{far_excluded}
use Rattle.wat_read_tokens.proofs.numbers.excludes.Goals as goal

pub returns-in-Far : goal.returns-in-Far
returns-in-Far c = λ z h. far_excluded c.args.between z (subst (λ (n : Number). IsNumber n z) c.in-Far.is h)

pub returns-in-Whole : goal.returns-in-Whole
returns-in-Whole c = λ z h.
    let fits : FitsSigned w128 c.in-Whole.value = search rules in
    ap not (c.has.ensures ∙ ap (is_between (low_of c.args.between) (high_of c.args.between)) (to_z-of_z w128 c.in-Whole.value fits ∙ subst (λ (n : Number). IsNumber n z) c.in-Whole.is h))

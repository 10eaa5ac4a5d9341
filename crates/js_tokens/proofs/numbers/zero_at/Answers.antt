use Rattle.std.proofs.Common.{sym, ap, ◌∙◌, arith, take}
use Rattle.asm_lang_tokens.specs.Forms.{value_in}
use Rattle.js_tokens.specs.declared.numbers.Base.TheVariants.{Sixteen}
use Rattle.js_tokens.specs.Scan.{value_len}
use Rattle.js_tokens.proofs.Digits.{hexadecimal_after, zero_before_mark, zero_alone, zero_decimal}
use Rattle.js_tokens.proofs.numbers.zero_at.Goals as goal

pub returns-then-n-eq0 : goal.returns-then-n-eq0
returns-then-n-eq0 c =
    let r = c.value_at-value in
    zero_before_mark c.args.rest.now r.result.1 (sym c.begins_mark.ensures.value ∙ c.if-begins_mark.true) (r.ensures.len ∙ ap (value_len Sixteen 0) c.split_at.ensures.back) c.if-n-eq0.true

pub returns-else-n-eq0 : goal.returns-else-n-eq0
returns-else-n-eq0 c =
    let r = c.value_at-value in
    hexadecimal_after c.args.rest.now r.result.1 r.result.0 (sym c.begins_mark.ensures.value ∙ c.if-begins_mark.true) (r.ensures.len ∙ ap (value_len Sixteen 0) c.split_at.ensures.back) (r.ensures.value ∙ ap (λ ys. value_in 16 0 (take r.result.1 ys)) c.split_at.ensures.back) c.if-n-eq0.false

pub returns-in-0 : goal.returns-in-0
returns-in-0 c = zero_alone c.args.rest.now c.fraction_len.result (sym c.begins_mark.ensures.value ∙ c.if-begins_mark.false) c.fraction_len.ensures.value c.in-0.is

pub returns-in_default : goal.returns-in_default
returns-in_default c = zero_decimal c.args.rest.now c.fraction_len.result (sym c.begins_mark.ensures.value ∙ c.if-begins_mark.false) c.fraction_len.ensures.value (omega arith)

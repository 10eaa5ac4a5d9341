use Rattle.std.proofs.Common.{ap, ◌∙◌, arith}
use Rattle.js_tokens.specs.Scan.{fraction_len}
use Rattle.js_tokens.proofs.Digits.{digits_at_front, decimal_at_front}
use Rattle.js_tokens.proofs.numbers.digits_at.Goals as goal

pub returns-in-0 : goal.returns-in-0
returns-in-0 c =
    let r = c.value_at-value in
    digits_at_front c.args.s.now c.digits_len-whole.result c.fraction_len.result r.result.1 r.result.0 c.requires c.digits_len-whole.ensures.value (c.fraction_len.ensures.value ∙ ap fraction_len c.split_at.ensures.back) c.in-0.is r.ensures.len r.ensures.value

pub returns-in_default : goal.returns-in_default
returns-in_default c = decimal_at_front c.args.s.now c.digits_len-whole.result c.fraction_len.result c.requires c.digits_len-whole.ensures.value (c.fraction_len.ensures.value ∙ ap fraction_len c.split_at.ensures.back) (omega arith)

use Rattle.std.proofs.Common.{◌+◌, ◌*◌, get_or, drop, sym, ap, ◌∙◌, arith}
use Rattle.asm_lang_tokens.specs.Bytes.{digit_value}
use Rattle.js_tokens.specs.Scan.{number_of, value_len}
use Rattle.js_tokens.proofs.Digits.{one_digit, value-more}
use Rattle.js_tokens.proofs.numbers.value_at.Goals as goal

pub loop-n-preserved : goal.loop-n-preserved
loop-n-preserved c =
    let s = c.args.s.now in
    let n = c.loop-n.n in
    let base = c.args.base in
    let e = c.in-Some.ensures in
    record {
      within = omega arith;
      so_far = ap (λ x. n + 1 + value_len base x (drop (n + 1) s)) e.1 ∙ one_digit base s n c.loop-n.value c.loop-n-test.true e.0 ∙ c.loop-n.invariant.so_far;
      value_is = e.1 ∙ ap (λ x. number_of base * x + digit_value (get_or s n 0)) c.loop-n.invariant.value_is ∙ sym (value-more (number_of base) s n c.loop-n-test.true);
    }

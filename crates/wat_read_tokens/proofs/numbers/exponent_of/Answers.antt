use Rattle.std.proofs.Common.{◌≡◌, ◌*◌, ◌^◌, sym, ap, ◌∙◌, arith}
use Rattle.std.proofs.lemmas.Grind.{pow_more}
use Rattle.std.proofs.lemmas.Bool.Decides.{nat_tests}
use Rattle.wat_read_tokens.proofs.Numerals.{exponent_next, exponent_here}
use Rattle.wat_read_tokens.proofs.numbers.exponent_of.Goals as goal

pub returns-then-power-n : goal.returns-then-power-n
returns-then-power-n c =
    let k = c.loop-exponent.exponent in
    let same : 2 ^ k ≡ c.args.n = grind (arith, nat_tests) in
    sym (exponent_here k c.args.n (omega arith) same) ∙ c.loop-exponent.invariant.goes_on

pub loop-exponent-preserved : goal.loop-exponent-preserved
loop-exponent-preserved c =
    let k = c.loop-exponent.exponent in
    let other : 2 ^ k ≡ c.args.n → ⊥ = λ e. grind (arith, nat_tests) in
    record {
      within = omega arith;
      is_power = ap (λ x. x * 2) c.loop-exponent.invariant.is_power ∙ sym (pow_more 2 k);
      goes_on = exponent_next k c.args.n (omega arith) other ∙ c.loop-exponent.invariant.goes_on;
    }

use Rattle.std.proofs.Common.{sym, ◌∙◌}
use Rattle.script_read.proofs.NumberLemmas.{stops_at, at_end}
use Rattle.script_read.proofs.numbers.digits.Goals as goal

pub returns-in_err-value : goal.returns-in_err-value
returns-in_err-value c =
    let fails = sym c.with_digit.ensures ∙ c.in_err-value.was in
    c.from_residual.ensures ∙ sym (c.loop-digit.invariant.same ∙ stops_at c.args.word.now c.loop-digit.digit-index c.loop-digit.value c.loop-digit-test.true fails)

pub returns : goal.returns
returns c =
    sym (c.loop-digit.invariant.same ∙ at_end c.args.word.now c.loop-digit.digit-index c.loop-digit.value c.loop-digit-test.false c.loop-digit.invariant.fits)

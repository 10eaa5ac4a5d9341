use Rattle.std.proofs.Common.{sym, ◌∙◌}
use Rattle.wat_tokens.proofs.Digits.{bad_turn}
use Rattle.wat_tokens.proofs.numbers.natural_in.Goals as goal

pub returns-else-is_mark : goal.returns-else-is_mark
returns-else-is_mark c =
    bad_turn c.args.base c.args.s.now c.loop-n.n c.loop-n.value c.loop-n.after_digit c.loop-n.invariant c.loop-n-test.true
    (sym c.is_digit_of.ensures ∙ c.if-is_digit_of.false) (sym c.is_mark.ensures ∙ c.if-is_mark.false)

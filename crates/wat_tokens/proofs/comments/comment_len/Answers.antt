use Rattle.std.proofs.Common.{◌-◌, ◌∙◌, arith, length-drop}
use Rattle.wat_tokens.proofs.Pairs.{after_closes, at_the_end}
use Rattle.wat_tokens.proofs.comments.comment_len.Goals as goal

pub loop-n-preserved-in-Closes : goal.loop-n-preserved-in-Closes
loop-n-preserved-in-Closes c = (
  omega (arith, c.loop-n-test.true, c.loop-n.invariant.0),
  omega (arith, c.loop-n.invariant.1),
  after_closes c.args.s.now c.loop-n.n c.loop-n.inner (c.loop-n.inner - 1) (omega (arith, c.loop-n-test.true)) c.in-Closes.ensures (omega (arith, c.if-inner-eq0.false))
      ∙ c.loop-n.invariant.2,
)

pub returns : goal.returns
returns c = at_the_end c.args.s.now c.loop-n.n c.loop-n.inner (omega (arith, length-drop c.loop-n.n c.args.s.now, c.loop-n-test.false)) c.loop-n.invariant.2

use Rattle.std.proofs.Common.{sym, ◌∙◌, length, ◌-◌, arith}
use Rattle.wat_grammar.proofs.Same.{same_last, same_never}
use Rattle.wat_grammar.proofs.bytes.same_long.Goals as goal

pub returns-then-not-same_eight : goal.returns-then-not-same_eight
returns-then-not-same_eight c =
    sym (same_never c.args.a.now c.args.b.now c.loop-at.at 8 (length c.args.a.now) (sym c.same_eight.ensures ∙ c.if-not-same_eight.true) (omega (arith, c.loop-at-test.true, c.requires)))

pub returns : goal.returns
returns c =
    c.same_eight-2.ensures
    ∙ same_last c.args.a.now c.args.b.now c.loop-at.at (length c.args.a.now - 8) 8 (length c.args.a.now) c.loop-at.invariant.1
    (omega (arith, c.loop-at-test.false)) c.loop-at.invariant.0 (omega (arith, c.requires))

use Rattle.std.proofs.Common.{arith, sym, length}
use Rattle.wat_grammar.proofs.Same.{same_not}
use Rattle.wat_grammar.proofs.bytes.same_short.Goals as goal

pub returns-then-a-at : goal.returns-then-a-at
returns-then-a-at c = sym (same_not c.args.a.now c.args.b.now c.loop-at.at (length c.args.a.now) c.loop-at-test.true (grind (arith, c.if-a-at.true)))

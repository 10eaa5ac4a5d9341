use Rattle.std.proofs.Common.{arith}
use Rattle.switch_cases.proofs.Tables.{default_here, default_past}
use Rattle.switch_cases.proofs.targets.before_default.Goals as goal

pub returns-then-is_none-clause-exact : goal.returns-then-is_none-clause-exact
returns-then-is_none-clause-exact c =
    let here = default_here c.args.clauses.now c.loop-i.i c.index-clauses-i.result c.is_none.result c.loop-i-test.true c.index-clauses-i.is c.is_none.ensures c.if-is_none.true in
    let sum = c.loop-i.invariant in
    omega arith

pub loop-i-preserved : goal.loop-i-preserved
loop-i-preserved c =
    let past = default_past c.args.clauses.now c.loop-i.i c.index-clauses-i.result c.is_none.result c.loop-i-test.true c.index-clauses-i.is c.is_none.ensures c.if-is_none.false in
    let sum = c.loop-i.invariant in
    omega arith

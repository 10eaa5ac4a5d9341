use Rattle.std.proofs.Common.{arith}
use Rattle.wat_tokens.specs.Fronts.{is_plain}
use Rattle.wat_tokens.proofs.LaneRuns.{whole_run, short_run}
use Rattle.wat_tokens.proofs.runs.plain_end.Goals as goal

pub loop-n-preserved : goal.loop-n-preserved
loop-n-preserved c =
    let run = c.plain_run-more.ensures in
    let most = run.most in
    let sixteen = whole_run is_plain c.args.s.now c.loop-n.n 16 c.plain_run-more.result run (omega (arith, most, c.if-more-lt-LANES.false)) (omega (arith, c.loop-n-test.true, c.loop-n.invariant.0)) in
    grind (arith, sixteen)

pub returns-then-more-lt-LANES : goal.returns-then-more-lt-LANES
returns-then-more-lt-LANES c =
    let run = c.plain_run-more.ensures in
    let fewer = short_run is_plain c.args.s.now c.loop-n.n 16 c.plain_run-more.result run c.if-more-lt-LANES.true (omega (arith, c.loop-n-test.true, c.loop-n.invariant.0)) in
    let before = c.loop-n.invariant.1 in
    record { value = omega (arith, fewer, before); within = omega (arith, c.loop-n-test.true, c.if-more-lt-LANES.true, c.loop-n.invariant.0) }

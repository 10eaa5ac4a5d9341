use Rattle.std.proofs.Common.{arith}
use Rattle.asm_validate_limits.proofs.Cases.{cases_left}
use Rattle.asm_validate_limits.proofs.clauses.case_count.Goals as goal

pub loop-clause-preserved : goal.loop-clause-preserved
loop-clause-preserved c =
    let left = cases_left c.args.clauses.now c.loop-clause.clause-index c.clause-item.result c.loop-clause-test.true c.clause-item.is in
    let value = c.as_case-count.ensures.value in
    let counted = c.loop-clause.invariant.counted in
    record { counted = omega arith; small = omega arith }

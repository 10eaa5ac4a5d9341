use Rattle.std.proofs.Common.{rules, ◌+◌, ap, arith}
use Rattle.std.proofs.lemmas.List.{at_drop_all}
use Rattle.asm_tree.specs.Views.{expr_view, stmt_view, stmts_view, clauses_view}
use Rattle.asm_lang_valid.specs.Rows.{stmt_count, stmts_count, clauses_count}
use Rattle.asm_validate_nodes.proofs.NodeCounts.{stopped, positive, stmt_positive, switch_is, clauses_step}
use Rattle.asm_validate_nodes.proofs.counting.+statements.Goals as goal

pub count_clauses-count_stmts-requires : goal.count_clauses-count_stmts-requires
count_clauses-count_stmts-requires t c =
    let k = clauses_step c.args.clauses.now c.loop-clause.clause-index c.clause-item.result c.as_slice.result.now c.loop-clause-test.true c.clause-item.is c.as_slice.ensures in
    let left = c.loop-clause.invariant.left in
    let d0 = c.decreases in
    (omega arith, tt)

pub count_clauses-returns-in_err-at : goal.count_clauses-returns-in_err-at
count_clauses-returns-in_err-at t c =
    let k = clauses_step c.args.clauses.now c.loop-clause.clause-index c.clause-item.result c.as_slice.result.now c.loop-clause-test.true c.clause-item.is c.as_slice.ensures in
    let counted = c.loop-clause.invariant.counted in
    stopped _ (c.loop-clause.at + stmts_count (stmts_view c.as_slice.result.now)) (c.args.before + clauses_count (clauses_view c.args.clauses.now)) (search rules) c.in_err-at.ensures (omega arith)

pub count_clauses-loop-clause-preserved : goal.count_clauses-loop-clause-preserved
count_clauses-loop-clause-preserved t c =
    let k = clauses_step c.args.clauses.now c.loop-clause.clause-index c.clause-item.result c.as_slice.result.now c.loop-clause-test.true c.clause-item.is c.as_slice.ensures in
    let left = c.loop-clause.invariant.left in
    let counted = c.loop-clause.invariant.counted in
    let below = c.in_ok-at.ensures.0 in
    let n = c.in_ok-at.ensures.1 in
    record { left = omega arith; counted = omega arith; held = omega arith }

pub count_clauses-returns : goal.count_clauses-returns
count_clauses-returns t c =
    let k = at_drop_all (λ l. clauses_count (clauses_view l)) c.args.clauses.now c.loop-clause.clause-index (omega (arith, c.loop-clause-test.false)) in
    let counted = c.loop-clause.invariant.counted in
    let held = c.loop-clause.invariant.held in
    (omega arith, omega arith)

pub count_stmt-returns-in_err-at : goal.count_stmt-returns-in_err-at
count_stmt-returns-in_err-at t c =
    let p = stmt_positive (stmt_view c.args.stmt.now) in
    stopped _ (c.args.before + 1) (c.args.before + stmt_count (stmt_view c.args.stmt.now)) (search rules) c.in_err-at.ensures (omega arith)

pub count_stmt-count_clauses-requires : goal.count_stmt-count_clauses-requires
count_stmt-count_clauses-requires t c =
    let k = ap stmt_count (switch_is c.args.stmt.now _ _ _ c.in-Switch.is c.as_slice-in-Switch.ensures) in
    let p = positive (expr_view c.in-Switch.subject) in
    let d0 = c.decreases in
    (omega arith, tt)

pub count_stmts-returns : goal.count_stmts-returns
count_stmts-returns t c =
    let k = at_drop_all (λ l. stmts_count (stmts_view l)) c.args.stmts.now c.loop-stmt.stmt-index (omega (arith, c.loop-stmt-test.false)) in
    let counted = c.loop-stmt.invariant.counted in
    let held = c.loop-stmt.invariant.held in
    (omega arith, omega arith)

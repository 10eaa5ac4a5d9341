use Rattle.std.proofs.Common.{rules, ◌+◌, arith}
use Rattle.std.proofs.lemmas.List.{at_drop_all}
use Rattle.asm_tree.specs.Views.{expr_view, exprs_view, links_view}
use Rattle.asm_lang_valid.specs.Rows.{expr_count, exprs_count, links_count}
use Rattle.asm_validate_nodes.proofs.NodeCounts.{stopped, positive, links_step}
use Rattle.asm_validate_nodes.proofs.counting.+expressions.Goals as goal

pub count_expr-returns-in_err-at : goal.count_expr-returns-in_err-at
count_expr-returns-in_err-at t c =
    let p = positive (expr_view c.args.expr.now) in
    stopped _ (c.args.before + 1) (c.args.before + expr_count (expr_view c.args.expr.now)) (search rules) c.in_err-at.ensures (omega arith)

pub count_exprs-returns : goal.count_exprs-returns
count_exprs-returns t c =
    let k = at_drop_all (λ l. exprs_count (exprs_view l)) c.args.exprs.now c.loop-expr.expr-index (omega (arith, c.loop-expr-test.false)) in
    let counted = c.loop-expr.invariant.counted in
    let held = c.loop-expr.invariant.held in
    (omega arith, omega arith)

pub count_links-count_expr-requires : goal.count_links-count_expr-requires
count_links-count_expr-requires t c =
    let k = links_step c.args.links.now c.loop-link.link-index c.link-item.result c.loop-link-test.true c.link-item.is in
    let left = c.loop-link.invariant.left in
    let d0 = c.decreases in
    (omega arith, tt)

pub count_links-returns-in_err-at : goal.count_links-returns-in_err-at
count_links-returns-in_err-at t c =
    let k = links_step c.args.links.now c.loop-link.link-index c.link-item.result c.loop-link-test.true c.link-item.is in
    let counted = c.loop-link.invariant.counted in
    stopped _ (c.loop-link.at + expr_count (expr_view c.link-item.result.operand)) (c.args.before + links_count (links_view c.args.links.now)) (search rules) c.in_err-at.ensures (omega arith)

pub count_links-loop-link-preserved : goal.count_links-loop-link-preserved
count_links-loop-link-preserved t c =
    let k = links_step c.args.links.now c.loop-link.link-index c.link-item.result c.loop-link-test.true c.link-item.is in
    let left = c.loop-link.invariant.left in
    let counted = c.loop-link.invariant.counted in
    let below = c.in_ok-at.ensures.0 in
    let n = c.in_ok-at.ensures.1 in
    record { left = omega arith; counted = omega arith; held = omega arith }

pub count_links-returns : goal.count_links-returns
count_links-returns t c =
    let k = at_drop_all (λ l. links_count (links_view l)) c.args.links.now c.loop-link.link-index (omega (arith, c.loop-link-test.false)) in
    let counted = c.loop-link.invariant.counted in
    let held = c.loop-link.invariant.held in
    (omega arith, omega arith)

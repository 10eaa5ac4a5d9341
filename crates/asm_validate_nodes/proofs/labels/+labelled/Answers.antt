use Rattle.std.proofs.Common.{◌+◌, drop, ap, sym, ◌∙◌, arith}
use Rattle.asm_tree.specs.Views.{expr_view, clauses_view}
use Rattle.asm_lang_valid.specs.Rows.{stmt_count}
use Rattle.asm_validate_nodes.proofs.NodeCounts.{positive, switch_is, clauses_step, labels_step}
use Rattle.asm_validate_nodes.specs.Labelled.{with_clauses}
use Rattle.asm_validate_nodes.proofs.labels.+labelled.Goals as goal

pub add_clauses-add_stmts-requires : goal.add_clauses-add_stmts-requires
add_clauses-add_stmts-requires t c =
    let k = clauses_step c.args.clauses.now c.loop-clause.clause-index c.clause-item.result c.as_slice.result.now c.loop-clause-test.true c.clause-item.is c.as_slice.ensures in
    let left = c.loop-clause.invariant.left in
    let d0 = c.decreases in
    (omega arith, tt)

pub add_clauses-loop-clause-preserved : goal.add_clauses-loop-clause-preserved
add_clauses-loop-clause-preserved t c =
    let ks = c.args.clauses.now in
    let i = c.loop-clause.clause-index in
    let k = clauses_step ks i c.clause-item.result c.as_slice.result.now c.loop-clause-test.true c.clause-item.is c.as_slice.ensures in
    let left = c.loop-clause.invariant.left in
    record {
      left = omega arith;
      seeded =
          c.loop-clause.invariant.seeded
          ∙ labels_step c.loop-clause.seed ks i c.clause-item.result c.as_slice.result.now c.loop-clause-test.true c.clause-item.is c.as_slice.ensures
          ∙ ap (λ s. with_clauses s (clauses_view (drop (i + 1) ks))) (sym c.add_stmts.ensures);
    }

pub add_stmt-add_clauses-requires : goal.add_stmt-add_clauses-requires
add_stmt-add_clauses-requires t c =
    let k = ap stmt_count (switch_is c.args.stmt.now _ _ _ c.in-Switch.is c.as_slice-in-Switch.ensures) in
    let p = positive (expr_view c.in-Switch.field-1) in
    let d0 = c.decreases in
    (omega arith, tt)

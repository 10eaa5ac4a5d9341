use Rattle.std.proofs.Common.{◌+◌, ap, ◌∙◌, arith}
use Rattle.asm_tree.specs.Views.{stmt_view, stmts_view}
use Rattle.asm_short_lang.specs.Renaming.{labels_in, labels_in_all}
use Rattle.asm_short_tree.proofs.Counts.{next_count, next_clause_count}
use Rattle.asm_short_tree.proofs.count.+counting.Goals as goal

pub count_stmts-loop-stmt-preserved : goal.count_stmts-loop-stmt-preserved
count_stmts-loop-stmt-preserved t c =
    let l = c.loop-stmt in
    let x = c.stmt-item.result in
    c.in_ok-count_stmt.ensures ∙ ap (λ n. n + labels_in (stmt_view x)) l.invariant ∙ next_count c.args.count.now c.args.stmts.now l.stmt-index x c.loop-stmt-test.true c.stmt-item.is

pub count_clauses-loop-clause-preserved : goal.count_clauses-loop-clause-preserved
count_clauses-loop-clause-preserved t c =
    let l = c.loop-clause in
    let x = c.clause-item.result in
    c.in_ok-count_stmts.ensures ∙ (λ i. l.invariant i + labels_in_all (stmts_view (c.as_slice.ensures i))) ∙ next_clause_count c.args.count.now c.args.clauses.now l.clause-index x c.loop-clause-test.true c.clause-item.is

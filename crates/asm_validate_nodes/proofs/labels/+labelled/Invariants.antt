use Rattle.std.proofs.Common.{◌≡◌, ◌+◌, ◌*◌, ◌≤◌, drop}
use Rattle.asm_tree.specs.Views.{stmt_view, stmts_view, clauses_view}
use Rattle.asm_lang_valid.specs.Rows.{stmt_count, stmts_count, clauses_count}
use Rattle.asm_validate_nodes.specs.Labelled.{with_stmts, with_clauses}
use Rattle.asm_validate_nodes.proofs.labels.+labelled.Given as goal

abbrev pub invariant-add_stmts-loop-stmt : goal.invariant-add_stmts-loop-stmt
invariant-add_stmts-loop-stmt l = record {
  left : stmts_count (stmts_view (drop l.stmt-index l.stmts)) ≤ stmts_count (stmts_view l.stmts);
  seeded : with_stmts l.fn.seed (stmts_view l.stmts) ≡ with_stmts l.seed (stmts_view (drop l.stmt-index l.stmts));
}

abbrev pub invariant-add_clauses-loop-clause : goal.invariant-add_clauses-loop-clause
invariant-add_clauses-loop-clause l = record {
  left : clauses_count (clauses_view (drop l.clause-index l.clauses)) ≤ clauses_count (clauses_view l.clauses);
  seeded : with_clauses l.fn.seed (clauses_view l.clauses) ≡ with_clauses l.seed (clauses_view (drop l.clause-index l.clauses));
}

abbrev pub decreases-add_stmt : goal.decreases-add_stmt
decreases-add_stmt l = 2 * stmt_count (stmt_view l.stmt.now)

abbrev pub decreases-add_stmts : goal.decreases-add_stmts
decreases-add_stmts l = 2 * stmts_count (stmts_view l.stmts.now) + 1

abbrev pub decreases-add_clauses : goal.decreases-add_clauses
decreases-add_clauses l = 2 * clauses_count (clauses_view l.clauses.now) + 2

use Rattle.std.proofs.Common.{◌≡◌, ◌+◌, ◌*◌, ◌≤◌, ◌<◌, ◌^◌, drop}
use Rattle.asm_tree.specs.Views.{stmt_view, stmts_view, clauses_view}
use Rattle.asm_lang_valid.specs.Rows.{stmt_count, stmts_count, clauses_count}
use Rattle.asm_validate_nodes.proofs.counting.+statements.Given as goal

abbrev pub invariant-count_stmts-loop-stmt : goal.invariant-count_stmts-loop-stmt
invariant-count_stmts-loop-stmt l = record {
  left : stmts_count (stmts_view (drop l.stmt-index l.stmts)) ≤ stmts_count (stmts_view l.stmts);
  counted : l.at + stmts_count (stmts_view (drop l.stmt-index l.stmts)) ≡ l.before + stmts_count (stmts_view l.stmts);
  held : l.at < 2 ^ 64;
}

abbrev pub invariant-count_clauses-loop-clause : goal.invariant-count_clauses-loop-clause
invariant-count_clauses-loop-clause l = record {
  left : clauses_count (clauses_view (drop l.clause-index l.clauses)) ≤ clauses_count (clauses_view l.clauses);
  counted : l.at + clauses_count (clauses_view (drop l.clause-index l.clauses)) ≡ l.before + clauses_count (clauses_view l.clauses);
  held : l.at < 2 ^ 64;
}

abbrev pub decreases-count_stmt : goal.decreases-count_stmt
decreases-count_stmt l = 2 * stmt_count (stmt_view l.stmt.now)

abbrev pub decreases-count_stmts : goal.decreases-count_stmts
decreases-count_stmts l = 2 * stmts_count (stmts_view l.stmts.now) + 1

abbrev pub decreases-count_clauses : goal.decreases-count_clauses
decreases-count_clauses l = 2 * clauses_count (clauses_view l.clauses.now) + 2

use Rattle.std.proofs.Common.{◌≡◌, ◌+◌, ◌*◌, ◌≤◌, drop}
use Rattle.asm_tree.specs.Views.{stmt_view, stmts_view, clauses_view}
use Rattle.asm_lang_valid.specs.Rows.{first, stmt_count, stmts_count, clauses_count}
use Rattle.asm_lang_valid.specs.TypeRows as rows
use Rattle.asm_names.specs.Scopes.{scope_view}
use Rattle.asm_validate_labels.specs.Arounds.{around_view}
use Rattle.asm_validate_stmts.proofs.statements.+statements.Given as goal

abbrev pub invariant-judge_stmts-loop-stmt : goal.invariant-judge_stmts-loop-stmt
invariant-judge_stmts-loop-stmt l = record {
  rest : first (rows.stmts_rows (scope_view l.context.scope) (around_view l.place l.initial.labels.open.entries) l.initial.at (stmts_view l.stmts)) ≡ first (rows.stmts_rows (scope_view l.context.scope) (around_view l.place l.initial.labels.open.entries) l.at (stmts_view (drop l.stmt-index l.stmts)));
  kept : l.labels.open.entries ≡ l.initial.labels.open.entries;
  left : stmts_count (stmts_view (drop l.stmt-index l.stmts)) ≤ stmts_count (stmts_view l.stmts);
  counted : l.at + stmts_count (stmts_view (drop l.stmt-index l.stmts)) ≡ l.initial.at + stmts_count (stmts_view l.stmts);
}

abbrev pub invariant-judge_clauses-loop-clause : goal.invariant-judge_clauses-loop-clause
invariant-judge_clauses-loop-clause l = record {
  rest : first (rows.clauses_rows (scope_view l.context.scope) (around_view l.place l.initial.labels.open.entries) l.initial.at (clauses_view l.clauses)) ≡ first (rows.clauses_rows (scope_view l.context.scope) (around_view l.place l.initial.labels.open.entries) l.at (clauses_view (drop l.clause-index l.clauses)));
  kept : l.labels.open.entries ≡ l.initial.labels.open.entries;
  left : clauses_count (clauses_view (drop l.clause-index l.clauses)) ≤ clauses_count (clauses_view l.clauses);
  counted : l.at + clauses_count (clauses_view (drop l.clause-index l.clauses)) ≡ l.initial.at + clauses_count (clauses_view l.clauses);
}

abbrev pub decreases-judge_stmt : goal.decreases-judge_stmt
decreases-judge_stmt l = 4 * stmt_count (stmt_view l.stmt.now)

abbrev pub decreases-judge_labelled : goal.decreases-judge_labelled
decreases-judge_labelled l = 4 * stmt_count (stmt_view l.body.now) + 3

abbrev pub decreases-judge_switch : goal.decreases-judge_switch
decreases-judge_switch l = 4 * clauses_count (clauses_view l.clauses.now) + 3

abbrev pub decreases-judge_stmts : goal.decreases-judge_stmts
decreases-judge_stmts l = 4 * stmts_count (stmts_view l.stmts.now) + 1

abbrev pub decreases-judge_clauses : goal.decreases-judge_clauses
decreases-judge_clauses l = 4 * clauses_count (clauses_view l.clauses.now) + 2

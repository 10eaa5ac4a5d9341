use Rattle.std.proofs.Common.{◌≡◌, ◌+◌, ◌*◌, ◌≤◌, drop}
use Rattle.asm_tree.specs.Views.{stmt_view, stmts_view, clauses_view}
use Rattle.asm_lang_valid.specs.Rows.{first, stmt_count, stmts_count, clauses_count}
use Rattle.asm_lang_valid.specs.NameRows as rows
use Rattle.asm_names.specs.Scopes.{scope_view}
use Rattle.asm_validate_names.proofs.statements.+statements.Given as goal

abbrev pub invariant-stmts_names-loop-stmt : goal.invariant-stmts_names-loop-stmt
invariant-stmts_names-loop-stmt l = record {
  rest : first (rows.stmts_names (scope_view l.scope) l.initial.at (stmts_view l.stmts)) ≡ first (rows.stmts_names (scope_view l.scope) l.at (stmts_view (drop l.stmt-index l.stmts)));
  left : stmts_count (stmts_view (drop l.stmt-index l.stmts)) ≤ stmts_count (stmts_view l.stmts);
  counted : l.at + stmts_count (stmts_view (drop l.stmt-index l.stmts)) ≡ l.initial.at + stmts_count (stmts_view l.stmts);
}

abbrev pub invariant-clauses_names-loop-clause : goal.invariant-clauses_names-loop-clause
invariant-clauses_names-loop-clause l = record {
  rest : first (rows.clauses_names (scope_view l.scope) l.initial.at (clauses_view l.clauses)) ≡ first (rows.clauses_names (scope_view l.scope) l.at (clauses_view (drop l.clause-index l.clauses)));
  left : clauses_count (clauses_view (drop l.clause-index l.clauses)) ≤ clauses_count (clauses_view l.clauses);
  counted : l.at + clauses_count (clauses_view (drop l.clause-index l.clauses)) ≡ l.initial.at + clauses_count (clauses_view l.clauses);
}

abbrev pub decreases-stmt_names : goal.decreases-stmt_names
decreases-stmt_names l = 2 * stmt_count (stmt_view l.stmt.now)

abbrev pub decreases-stmts_names : goal.decreases-stmts_names
decreases-stmts_names l = 2 * stmts_count (stmts_view l.stmts.now) + 1

abbrev pub decreases-clauses_names : goal.decreases-clauses_names
decreases-clauses_names l = 2 * clauses_count (clauses_view l.clauses.now) + 2

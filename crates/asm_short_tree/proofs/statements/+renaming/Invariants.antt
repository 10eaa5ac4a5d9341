use Rattle.std.proofs.Common.{◌≡◌, ◌≤◌, ◌+◌, ◌*◌, drop, map}
use Rattle.sem_words.specs.Lists.{list_items}
use Rattle.asm_tree.specs.Views.{stmt_view, stmts_view, clause_view, clauses_view}
use Rattle.asm_lang_valid.specs.Rows.{stmt_count, stmts_count, clauses_count}
use Rattle.asm_short_lang.specs.Renaming.{labels_in_all, labels_in_clauses}
use Rattle.asm_short_tree.specs.Bodies.{stmts_by, clauses_by}
use Rattle.asm_short_tree.proofs.Blocks.{stmts_before, clauses_before}
use Rattle.asm_short_tree.proofs.statements.+renaming.Given as goal

abbrev pub invariant-renamed_stmts-loop-stmt : goal.invariant-renamed_stmts-loop-stmt
invariant-renamed_stmts-loop-stmt l = record {
  renamed : stmts_before (map stmt_view (list_items l.list)) (stmts_by l.renaming l.around l.before (stmts_view (drop l.stmt-index l.stmts))) ≡ stmts_by l.renaming l.around l.initial.before (stmts_view l.stmts);
  left : stmts_count (stmts_view (drop l.stmt-index l.stmts)) ≤ stmts_count (stmts_view l.stmts);
  counted : l.before + labels_in_all (stmts_view (drop l.stmt-index l.stmts)) ≡ l.initial.before + labels_in_all (stmts_view l.stmts);
}

abbrev pub invariant-renamed_clauses-loop-clause : goal.invariant-renamed_clauses-loop-clause
invariant-renamed_clauses-loop-clause l = record {
  renamed : clauses_before (map clause_view (list_items l.list)) (clauses_by l.renaming l.around l.before (clauses_view (drop l.clause-index l.clauses))) ≡ clauses_by l.renaming l.around l.initial.before (clauses_view l.clauses);
  left : clauses_count (clauses_view (drop l.clause-index l.clauses)) ≤ clauses_count (clauses_view l.clauses);
  counted : l.before + labels_in_clauses (clauses_view (drop l.clause-index l.clauses)) ≡ l.initial.before + labels_in_clauses (clauses_view l.clauses);
}

abbrev pub decreases-renamed_stmt : goal.decreases-renamed_stmt
decreases-renamed_stmt l = 8 * stmt_count (stmt_view l.stmt.now)

abbrev pub decreases-renamed_body : goal.decreases-renamed_body
decreases-renamed_body l = 8 * stmt_count (stmt_view l.stmt.now) + 1

abbrev pub decreases-renamed_inside : goal.decreases-renamed_inside
decreases-renamed_inside l = 8 * stmt_count (stmt_view l.stmt.now) + 2

abbrev pub decreases-renamed_labelled : goal.decreases-renamed_labelled
decreases-renamed_labelled l = 8 * stmt_count (stmt_view l.stmt.now) + 3

abbrev pub decreases-renamed_stmts : goal.decreases-renamed_stmts
decreases-renamed_stmts l = 8 * stmts_count (stmts_view l.stmts.now) + 1

abbrev pub decreases-renamed_clauses : goal.decreases-renamed_clauses
decreases-renamed_clauses l = 8 * clauses_count (clauses_view l.clauses.now) + 2

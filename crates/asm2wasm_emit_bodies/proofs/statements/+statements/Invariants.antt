use Rattle.std.proofs.Common.{◌≡◌, ◌+◌, ◌*◌, ◌≤◌, ◌++◌, length, drop}
use Rattle.wasm_lang_exec.specs.Code.{ε}
use Rattle.wasm_laws_trees.specs.Spelled.{flat}
use Rattle.wasm_laws_write.specs.Lengths.{IsNarrow}
use Rattle.wasm_laws_write.specs.Each.{EachIn}
use Rattle.asm_tree.specs.Views.{stmt_view, stmts_view, clauses_view}
use Rattle.asm_lang_valid.specs.Rows.{stmt_count, stmts_count, clauses_count}
use Rattle.asm2wasm_translation.specs.Bodies.{stmts_code, short_code, long_code}
use Rattle.asm2wasm_emit_switches.specs.Labels.{labels_view}
use Rattle.asm2wasm_emit_values.specs.Contexts.{scope_in}
use Rattle.asm2wasm_emit_bodies.specs.Forms.{clauses_spelled}
use Rattle.asm2wasm_emit_bodies.proofs.statements.+statements.Given as goal

abbrev pub invariant-emit_stmts-loop-stmt : goal.invariant-emit_stmts-loop-stmt
invariant-emit_stmts-loop-stmt l = record {
  given : l.initial.output ++ flat (stmts_code l.context.size (scope_in l.context) (labels_view l.labels) (stmts_view l.stmts)) ≡ l.output ++ flat (stmts_code l.context.size (scope_in l.context) (labels_view l.labels) (stmts_view (drop l.stmt-index l.stmts)));
  narrow : EachIn IsNarrow (stmts_code l.context.size (scope_in l.context) (labels_view l.labels) (stmts_view (drop l.stmt-index l.stmts)));
  left : stmts_count (stmts_view (drop l.stmt-index l.stmts)) ≤ stmts_count (stmts_view l.stmts);
}

abbrev pub invariant-short_clauses-loop-clause : goal.invariant-short_clauses-loop-clause
invariant-short_clauses-loop-clause l = record {
  after_is : l.after + l.clause-index ≡ length l.clauses;
  given : l.initial.output ++ clauses_spelled l.context.size (scope_in l.context) (labels_view l.labels) (clauses_view l.clauses) ≡ l.output ++ clauses_spelled l.context.size (scope_in l.context) (labels_view l.labels) (clauses_view (drop l.clause-index l.clauses));
  narrow : EachIn IsNarrow (short_code l.context.size (scope_in l.context) (labels_view l.labels) ε (clauses_view (drop l.clause-index l.clauses)));
  left : clauses_count (clauses_view (drop l.clause-index l.clauses)) ≤ clauses_count (clauses_view l.clauses);
}

abbrev pub invariant-long_clauses-loop-j : goal.invariant-long_clauses-loop-j
invariant-long_clauses-loop-j l = record {
  given : l.initial.output ++ flat (long_code l.context.size (scope_in l.context) (labels_view l.labels) 0 (clauses_view l.clauses)) ≡ l.output ++ flat (long_code l.context.size (scope_in l.context) (labels_view l.labels) l.j (clauses_view (drop l.j l.clauses)));
  narrow : EachIn IsNarrow (long_code l.context.size (scope_in l.context) (labels_view l.labels) l.j (clauses_view (drop l.j l.clauses)));
  left : clauses_count (clauses_view (drop l.j l.clauses)) ≤ clauses_count (clauses_view l.clauses);
}

abbrev pub decreases-emit_stmt : goal.decreases-emit_stmt
decreases-emit_stmt l = 8 * stmt_count (stmt_view l.stmt.now)

abbrev pub decreases-emit_stmts : goal.decreases-emit_stmts
decreases-emit_stmts l = 8 * stmts_count (stmts_view l.stmts.now) + 1

abbrev pub decreases-emit_block : goal.decreases-emit_block
decreases-emit_block l = 8 * stmt_count (stmt_view l.body.now) + 1

abbrev pub decreases-emit_if : goal.decreases-emit_if
decreases-emit_if l = 8 * stmt_count (stmt_view l.yes.now) + 1

abbrev pub decreases-emit_if_else : goal.decreases-emit_if_else
decreases-emit_if_else l = 8 * (stmt_count (stmt_view l.yes.now) + stmt_count (stmt_view l.no.now)) + 1

abbrev pub decreases-emit_loop : goal.decreases-emit_loop
decreases-emit_loop l = 8 * stmt_count (stmt_view l.body.now) + 2

abbrev pub decreases-emit_do : goal.decreases-emit_do
decreases-emit_do l = 8 * stmt_count (stmt_view l.body.now) + 2

abbrev pub decreases-emit_switch : goal.decreases-emit_switch
decreases-emit_switch l = 8 * clauses_count (clauses_view l.clauses.now) + 4

abbrev pub decreases-short_switch : goal.decreases-short_switch
decreases-short_switch l = 8 * clauses_count (clauses_view l.clauses.now) + 3

abbrev pub decreases-short_clauses : goal.decreases-short_clauses
decreases-short_clauses l = 8 * clauses_count (clauses_view l.clauses.now) + 2

abbrev pub decreases-long_switch : goal.decreases-long_switch
decreases-long_switch l = 8 * clauses_count (clauses_view l.clauses.now) + 3

abbrev pub decreases-long_clauses : goal.decreases-long_clauses
decreases-long_clauses l = 8 * clauses_count (clauses_view l.clauses.now) + 2

abbrev pub decreases-emit_while : goal.decreases-emit_while
decreases-emit_while l = 8 * stmt_count (stmt_view l.body.now) + 2

-- What a pass from the last item to the first keeps: the code so far is that of the items passed, before what was there.
use Rattle.std.proofs.Common.{◌≡◌, suc, ◌+◌, ◌*◌, ◌≤◌, List, length, drop}
use Rattle.asm_tree.specs.Views.{stmt_view, stmts_view, clauses_view}
use Rattle.asm_lang_valid.specs.Rows.{stmt_count, stmts_count, clauses_count}
use Rattle.asm_run_code.specs.Bodies.{Around, stmts_code, clauses_code}
use Rattle.asm_run_names.specs.Names.{scope_said}
use Rattle.asm_run_emit_bodies.specs.Jumps.{Meets}
use Rattle.asm_run_emit_bodies.specs.Choices.{stmt_option, otherwise_count}
use Rattle.asm_run_emit_bodies.proofs.statements.+statements.Given as goal

abbrev pub invariant-emit_stmts-loop-i : goal.invariant-emit_stmts-loop-i
invariant-emit_stmts-loop-i l = record {
  within : l.i ≤ length l.body;
  made : (os : List Around) → Meets l.initial.jumps os → l.output ≡ stmts_code (scope_said l.names) os l.free (stmts_view (drop l.i l.body)) l.initial.output;
  kept : l.jumps ≡ l.initial.jumps;
}

abbrev pub decreases-emit_stmts-loop-i : goal.decreases-emit_stmts-loop-i
decreases-emit_stmts-loop-i l = l.i

abbrev pub invariant-emit_clauses-loop-i : goal.invariant-emit_clauses-loop-i
invariant-emit_clauses-loop-i l = record {
  within : l.i ≤ length l.clauses;
  made : (os : List Around) → Meets l.initial.jumps os → l.output ≡ (clauses_code (scope_said l.names) os l.free (clauses_view (drop l.i l.clauses)) l.initial.output).code;
  placed : (os : List Around) → Meets l.initial.jumps os → l.starts ≡ (clauses_code (scope_said l.names) os l.free (clauses_view (drop l.i l.clauses)) l.initial.output).starts;
  count : length l.starts + l.i ≡ suc (length l.clauses);
  kept : l.jumps ≡ l.initial.jumps;
}

abbrev pub decreases-emit_clauses-loop-i : goal.decreases-emit_clauses-loop-i
decreases-emit_clauses-loop-i l = l.i

-- ---- each call is of a smaller statement, or of the same one by a lower function

abbrev pub decreases-emit_stmt : goal.decreases-emit_stmt
decreases-emit_stmt l = 8 * stmt_count (stmt_view l.statement.now)

abbrev pub decreases-emit_stmts : goal.decreases-emit_stmts
decreases-emit_stmts l = 8 * stmts_count (stmts_view l.body.now) + 2

abbrev pub decreases-emit_clauses : goal.decreases-emit_clauses
decreases-emit_clauses l = 8 * clauses_count (clauses_view l.clauses.now) + 3

abbrev pub decreases-emit_bare : goal.decreases-emit_bare
decreases-emit_bare l = 8 * stmt_count (stmt_view l.body.now) + 1

abbrev pub decreases-emit_labelled : goal.decreases-emit_labelled
decreases-emit_labelled l = 8 * stmt_count (stmt_view l.body.now) + 1

abbrev pub decreases-emit_if : goal.decreases-emit_if
decreases-emit_if l = 8 * (stmt_count (stmt_view l.yes.now) + otherwise_count (stmt_option l.no.now)) + 3

abbrev pub decreases-emit_else : goal.decreases-emit_else
decreases-emit_else l = 8 * otherwise_count (stmt_option l.no.now) + 2

abbrev pub decreases-emit_loop : goal.decreases-emit_loop
decreases-emit_loop l = 8 * stmt_count (stmt_view l.body.now) + 2

abbrev pub decreases-emit_switch : goal.decreases-emit_switch
decreases-emit_switch l = 8 * clauses_count (clauses_view l.clauses.now) + 4

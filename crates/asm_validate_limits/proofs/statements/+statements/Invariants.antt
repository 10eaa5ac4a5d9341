use Rattle.std.proofs.Common.{◌≡◌, ◌+◌, ◌*◌, ◌≤◌, drop}
use Rattle.asm_tree.specs.Views.{expr_view, expr_option, stmt_view, stmts_view, clauses_view}
use Rattle.asm_lang_valid.specs.Rows.{expr_count, option_count, stmt_count, stmts_count, clauses_count}
use Rattle.asm_names.specs.Scopes.{scope_view}
use Rattle.asm_validate_limits.specs.Passes.{IsOf}
use Rattle.asm_validate_limits.proofs.Lists.{Completes}
use Rattle.asm_validate_limits.proofs.Stmts.{body_marks, body_count, switch_marks, switch_count}
use Rattle.asm_validate_limits.proofs.statements.+statements.Given as goal

abbrev pub invariant-stmts_limits-loop-stmt : goal.invariant-stmts_limits-loop-stmt
invariant-stmts_limits-loop-stmt l = record {
  rest : Completes (body_marks (scope_view l.scope) l.stmts l.initial.tally.at) (body_count l.stmts) l.initial.tally (body_marks (scope_view l.scope) (drop l.stmt-index l.stmts) l.tally.at) (body_count (drop l.stmt-index l.stmts)) l.tally;
  left : body_count (drop l.stmt-index l.stmts) ≤ body_count l.stmts;
  counted : l.tally.at + body_count (drop l.stmt-index l.stmts) ≡ l.initial.tally.at + body_count l.stmts;
  of : IsOf (scope_view l.scope).home l.tally;
}

abbrev pub invariant-clauses_limits-loop-clause : goal.invariant-clauses_limits-loop-clause
invariant-clauses_limits-loop-clause l = record {
  rest : Completes (switch_marks (scope_view l.scope) l.clauses l.initial.tally.at) (switch_count l.clauses) l.initial.tally (switch_marks (scope_view l.scope) (drop l.clause-index l.clauses) l.tally.at) (switch_count (drop l.clause-index l.clauses)) l.tally;
  left : switch_count (drop l.clause-index l.clauses) ≤ switch_count l.clauses;
  counted : l.tally.at + switch_count (drop l.clause-index l.clauses) ≡ l.initial.tally.at + switch_count l.clauses;
  of : IsOf (scope_view l.scope).home l.tally;
}

abbrev pub decreases-stmt_limits : goal.decreases-stmt_limits
decreases-stmt_limits l = 6 * stmt_count (stmt_view l.stmt.now)

abbrev pub decreases-stmts_limits : goal.decreases-stmts_limits
decreases-stmts_limits l = 6 * stmts_count (stmts_view l.stmts.now) + 1

abbrev pub decreases-clauses_limits : goal.decreases-clauses_limits
decreases-clauses_limits l = 6 * clauses_count (clauses_view l.clauses.now) + 2

abbrev pub decreases-guarded_limits : goal.decreases-guarded_limits
decreases-guarded_limits l = 6 * (expr_count (expr_view l.condition.now) + stmt_count (stmt_view l.body.now)) + 1

abbrev pub decreases-choice_limits : goal.decreases-choice_limits
decreases-choice_limits l = 6 * (expr_count (expr_view l.condition.now) + (stmt_count (stmt_view l.yes.now) + stmt_count (stmt_view l.no.now))) + 3

abbrev pub decreases-pair_limits : goal.decreases-pair_limits
decreases-pair_limits l = 6 * (stmt_count (stmt_view l.yes.now) + stmt_count (stmt_view l.no.now)) + 2

abbrev pub decreases-until_limits : goal.decreases-until_limits
decreases-until_limits l = 6 * (stmt_count (stmt_view l.body.now) + expr_count (expr_view l.condition.now)) + 1

abbrev pub decreases-for_limits : goal.decreases-for_limits
decreases-for_limits l = 6 * (option_count (expr_option l.start.now) + (option_count (expr_option l.condition.now) + (option_count (expr_option l.step.now) + stmt_count (stmt_view l.body.now)))) + 4

abbrev pub decreases-turn_limits : goal.decreases-turn_limits
decreases-turn_limits l = 6 * (option_count (expr_option l.condition.now) + (option_count (expr_option l.step.now) + stmt_count (stmt_view l.body.now))) + 3

abbrev pub decreases-stepped_limits : goal.decreases-stepped_limits
decreases-stepped_limits l = 6 * (option_count (expr_option l.step.now) + stmt_count (stmt_view l.body.now)) + 2

abbrev pub decreases-switch_limits : goal.decreases-switch_limits
decreases-switch_limits l = 6 * (expr_count (expr_view l.subject.now) + clauses_count (clauses_view l.clauses.now)) + 3

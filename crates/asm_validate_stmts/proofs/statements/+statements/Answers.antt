use Rattle.std.proofs.Common.{rules, ap, ◌∙◌, arith}
use Rattle.asm_tree.specs.Views.{expr_view, stmt_view, clauses_view}
use Rattle.asm_names.specs.Scopes.{scope_view}
use Rattle.asm_validate_names.proofs.Found.{clauses_step}
use Rattle.asm_validate_names.proofs.Shapes.{stmt_positive}
use Rattle.asm_validate_labels.specs.declared.places.Place.{Place}
use Rattle.asm_validate_labels.specs.Arounds.{around_view}
use Rattle.asm_validate_names.specs.declared.refusal.AsmRefusal.TheVariants.{Refused}
use Rattle.asm_validate_names.proofs.Order.{err_row}
use Rattle.asm_validate_stmts.proofs.Switches.{clauses_within, clauses_after, in_subject, in_cases, in_clauses}
use Rattle.asm_validate_stmts.proofs.statements.+statements.Goals as goal

pub judge_stmt-overflow_add-at : goal.judge_stmt-overflow_add-at
judge_stmt-overflow_add-at t c =
    let r = c.requires.room in
    let p = stmt_positive (stmt_view c.args.stmt.now) in
    omega arith

pub judge_clauses-judge_stmts-requires : goal.judge_clauses-judge_stmts-requires
judge_clauses-judge_stmts-requires t c =
    let k = clauses_step c.args.clauses.now c.loop-clause.clause-index c.clause-item.result c.as_slice.result.now c.loop-clause-test.true c.clause-item.is c.as_slice.ensures in
    let left = c.loop-clause.invariant.left in
    let counted = c.loop-clause.invariant.counted in
    let r = c.requires.room in
    let d0 = c.decreases in
    (omega arith, (c.requires.known, omega arith))

pub judge_clauses-returns-in_err-judge_stmts-clause-row : goal.judge_clauses-returns-in_err-judge_stmts-clause-row
judge_clauses-returns-in_err-judge_stmts-clause-row t c =
    err_row c.from_residual.result _ c.in_err-judge_stmts.field-0.0 (search rules)
    (clauses_within (scope_view c.args.context.now.scope) c.args.place c.loop-clause.labels.open.entries c.args.labels.now.open.entries c.args.clauses.now c.loop-clause.clause-index c.clause-item.result c.as_slice.result.now c.loop-clause.at _ c.loop-clause-test.true c.clause-item.is c.as_slice.ensures c.loop-clause.invariant.kept c.loop-clause.invariant.rest c.in_err-judge_stmts.field-0.0 c.in_err-judge_stmts.ensures.row)

pub judge_clauses-loop-clause-preserved : goal.judge_clauses-loop-clause-preserved
judge_clauses-loop-clause-preserved t c =
    let k = clauses_step c.args.clauses.now c.loop-clause.clause-index c.clause-item.result c.as_slice.result.now c.loop-clause-test.true c.clause-item.is c.as_slice.ensures in
    let left = c.loop-clause.invariant.left in
    let counted = c.loop-clause.invariant.counted in
    let n = c.in_ok-judge_stmts.ensures.counted in
    record {
      rest = clauses_after (scope_view c.args.context.now.scope) c.args.place c.loop-clause.labels.open.entries c.args.labels.now.open.entries c.args.clauses.now c.loop-clause.clause-index c.clause-item.result c.as_slice.result.now c.loop-clause.at _ c.loop-clause-test.true c.clause-item.is c.as_slice.ensures c.loop-clause.invariant.kept c.loop-clause.invariant.rest c.judge_stmts.new.at c.in_ok-judge_stmts.ensures.row n;
      kept = c.in_ok-judge_stmts.ensures.kept ∙ c.loop-clause.invariant.kept;
      left = omega arith;
      counted = omega arith;
    }

pub judge_switch-returns-in_err-subject-clause-row : goal.judge_switch-returns-in_err-subject-clause-row
judge_switch-returns-in_err-subject-clause-row t c =
    err_row c.from_residual.result _ (Refused c.in_err-subject.field-0.0.rule c.in_err-subject.field-0.0.node) (search rules)
    (in_subject (scope_view c.args.context.now.scope) (around_view c.args.place c.args.labels.now.open.entries) c.args.node c.args.at.now (expr_view c.args.test.now) (clauses_view c.args.clauses.now) c.requires.begun (Refused c.in_err-subject.field-0.0.rule c.in_err-subject.field-0.0.node) c.in_err-subject.ensures.row)

pub judge_switch-returns-in_err-needs-clause-row : goal.judge_switch-returns-in_err-needs-clause-row
judge_switch-returns-in_err-needs-clause-row t c =
    err_row c.from_residual-in_err-needs.result _ (Refused c.in_err-needs.field-0.0.rule c.in_err-needs.field-0.0.node) (search rules)
    (in_cases (scope_view c.args.context.now.scope) (around_view c.args.place c.args.labels.now.open.entries) c.args.node c.args.at.now (expr_view c.args.test.now) (clauses_view c.args.clauses.now) c.requires.begun
    c.in_ok-fits.fits c.in_ok-subject.ensures.row c.in_ok-fits.ensures (Refused c.in_err-needs.field-0.0.rule c.in_err-needs.field-0.0.node) c.in_err-needs.ensures.row)

pub judge_switch-returns-clause-row : goal.judge_switch-returns-clause-row
judge_switch-returns-clause-row t c =
    in_clauses (scope_view c.args.context.now.scope) (around_view c.args.place c.args.labels.now.open.entries) c.args.node c.args.at.now (expr_view c.args.test.now) (clauses_view c.args.clauses.now) c.requires.begun
    c.in_ok-fits.fits c.in_ok-subject.ensures.row c.in_ok-fits.ensures
    (around_view c.in_a_switch.result c.args.labels.now.open.entries) c.subject.new.at c.judge_clauses.result c.in_ok-needs.ensures.row (ap (λ (q : Place). around_view q c.args.labels.now.open.entries) c.in_a_switch.ensures) c.in_ok-subject.ensures.counted c.judge_clauses.ensures.row

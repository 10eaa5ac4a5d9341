-- What the calls require: there is room for the nodes that are left. What returns gives: the parts' marks, one after another.
use Rattle.std.proofs.Common.{rules, ℕ, ◌+◌, ◌++◌, List, Ok, Err, ap, refl, arith}
use Rattle.std.specs.Prelude.{nat_le}
use Rattle.asm_tree.specs.declared.tree.Stmt.{Stmt}
use Rattle.asm_tree.specs.Views.{expr_view, expr_option, stmt_view, stmts_view, clauses_view}
use Rattle.asm_lang_valid.specs.declared.rule.Rule.TheVariants.{PastLimit}
use Rattle.asm_lang_valid.specs.Rows.{need, expr_count, option_count, stmt_count, stmts_count, clauses_count}
use Rattle.asm_lang_valid.specs.LimitRows.{Mark, rows_of, expr_marks, stmt_marks, stmts_marks, clauses_marks, clauses_length, most_clauses}
use Rattle.asm_names.specs.Scopes.{scope_view}
use Rattle.asm_validate_limits.specs.declared.callee.Place.TheVariants.{Operand, Effect}
use Rattle.asm_validate_limits.specs.Places.{placed_marks, option_placed}
use Rattle.asm_validate_limits.proofs.Passes.{err_first, after_none, then_at, from_err, need_err, need_ok}
use Rattle.asm_validate_limits.proofs.Shapes.{positive}
use Rattle.asm_validate_limits.proofs.Stmts.{stmt_positive, block_is, plain_is, return_is, if_only_is, if_else_is, while_is, do_is, for_is, labelled_is, switch_is, of_form, leaf_any, option_is, for_marks, body_left, clauses_left, next_stmt, stmt_ends, no_stmts_left, next_clause, clause_ends, no_clauses_left}
use Rattle.asm_validate_limits.proofs.statements.+statements.Goals as goal

pub guarded_limits-returns-in_err-expr_limits : goal.guarded_limits-returns-in_err-expr_limits
guarded_limits-returns-in_err-expr_limits t c =
    let rest : ℕ → List Mark = (λ at. stmt_marks (scope_view c.args.scope.now) at (stmt_view c.args.body.now)) in
    err_first (expr_marks (scope_view c.args.scope.now) c.args.tally.now.at (expr_view c.args.condition.now)) (rest (c.args.tally.now.at + (expr_count (expr_view c.args.condition.now)))) _ c.args.tally.now _ _ c.in_err-expr_limits.field-0.0 (search rules) c.in_err-expr_limits.ensures

pub guarded_limits-returns : goal.guarded_limits-returns
guarded_limits-returns t c =
    then_at (expr_marks (scope_view c.args.scope.now) c.args.tally.now.at (expr_view c.args.condition.now)) (λ at. stmt_marks (scope_view c.args.scope.now) at (stmt_view c.args.body.now)) (expr_count (expr_view c.args.condition.now)) (stmt_count (stmt_view c.args.body.now)) c.args.tally.now c.expr_limits.new.tally c.stmt_limits.new.tally c.stmt_limits.result c.in_ok-expr_limits.ensures c.stmt_limits.ensures

pub guarded_limits-stmt_limits-requires : goal.guarded_limits-stmt_limits-requires
guarded_limits-stmt_limits-requires t c =
    let r = c.requires.room in
    let d0 = c.decreases in
    let n = c.in_ok-expr_limits.ensures.counted in
    let p = positive (expr_view c.args.condition.now) in
    (omega arith, (c.requires.known, (c.in_ok-expr_limits.ensures.of _ c.requires.of, omega arith)))

pub choice_limits-returns-in_err-expr_limits : goal.choice_limits-returns-in_err-expr_limits
choice_limits-returns-in_err-expr_limits t c =
    let rest : ℕ → List Mark = (λ at. stmt_marks (scope_view c.args.scope.now) at (stmt_view c.args.yes.now) ++ stmt_marks (scope_view c.args.scope.now) (at + (stmt_count (stmt_view c.args.yes.now))) (stmt_view c.args.no.now)) in
    err_first (expr_marks (scope_view c.args.scope.now) c.args.tally.now.at (expr_view c.args.condition.now)) (rest (c.args.tally.now.at + (expr_count (expr_view c.args.condition.now)))) _ c.args.tally.now _ _ c.in_err-expr_limits.field-0.0 (search rules) c.in_err-expr_limits.ensures

pub choice_limits-returns : goal.choice_limits-returns
choice_limits-returns t c =
    then_at (expr_marks (scope_view c.args.scope.now) c.args.tally.now.at (expr_view c.args.condition.now)) (λ at. stmt_marks (scope_view c.args.scope.now) at (stmt_view c.args.yes.now) ++ stmt_marks (scope_view c.args.scope.now) (at + (stmt_count (stmt_view c.args.yes.now))) (stmt_view c.args.no.now)) (expr_count (expr_view c.args.condition.now)) ((stmt_count (stmt_view c.args.yes.now)) + (stmt_count (stmt_view c.args.no.now))) c.args.tally.now c.expr_limits.new.tally c.pair_limits.new.tally c.pair_limits.result c.in_ok-expr_limits.ensures c.pair_limits.ensures

pub choice_limits-pair_limits-requires : goal.choice_limits-pair_limits-requires
choice_limits-pair_limits-requires t c =
    let r = c.requires.room in
    let d0 = c.decreases in
    let n = c.in_ok-expr_limits.ensures.counted in
    (omega arith, (c.requires.known, (c.in_ok-expr_limits.ensures.of _ c.requires.of, omega arith)))

pub pair_limits-returns-in_err-stmt_limits : goal.pair_limits-returns-in_err-stmt_limits
pair_limits-returns-in_err-stmt_limits t c =
    let rest : ℕ → List Mark = (λ at. stmt_marks (scope_view c.args.scope.now) at (stmt_view c.args.no.now)) in
    err_first (stmt_marks (scope_view c.args.scope.now) c.args.tally.now.at (stmt_view c.args.yes.now)) (rest (c.args.tally.now.at + (stmt_count (stmt_view c.args.yes.now)))) _ c.args.tally.now _ _ c.in_err-stmt_limits.field-0.0 (search rules) c.in_err-stmt_limits.ensures

pub pair_limits-returns : goal.pair_limits-returns
pair_limits-returns t c =
    then_at (stmt_marks (scope_view c.args.scope.now) c.args.tally.now.at (stmt_view c.args.yes.now)) (λ at. stmt_marks (scope_view c.args.scope.now) at (stmt_view c.args.no.now)) (stmt_count (stmt_view c.args.yes.now)) (stmt_count (stmt_view c.args.no.now)) c.args.tally.now c.stmt_limits.new.tally c.stmt_limits-2.new.tally c.stmt_limits-2.result c.in_ok-stmt_limits.ensures c.stmt_limits-2.ensures

pub pair_limits-stmt_limits-requires-2 : goal.pair_limits-stmt_limits-requires-2
pair_limits-stmt_limits-requires-2 t c =
    let r = c.requires.room in
    let d0 = c.decreases in
    let n = c.in_ok-stmt_limits.ensures.counted in
    (omega arith, (c.requires.known, (c.in_ok-stmt_limits.ensures.of _ c.requires.of, omega arith)))

pub until_limits-returns-in_err-stmt_limits : goal.until_limits-returns-in_err-stmt_limits
until_limits-returns-in_err-stmt_limits t c =
    let rest : ℕ → List Mark = (λ at. expr_marks (scope_view c.args.scope.now) at (expr_view c.args.condition.now)) in
    err_first (stmt_marks (scope_view c.args.scope.now) c.args.tally.now.at (stmt_view c.args.body.now)) (rest (c.args.tally.now.at + (stmt_count (stmt_view c.args.body.now)))) _ c.args.tally.now _ _ c.in_err-stmt_limits.field-0.0 (search rules) c.in_err-stmt_limits.ensures

pub until_limits-returns : goal.until_limits-returns
until_limits-returns t c =
    then_at (stmt_marks (scope_view c.args.scope.now) c.args.tally.now.at (stmt_view c.args.body.now)) (λ at. expr_marks (scope_view c.args.scope.now) at (expr_view c.args.condition.now)) (stmt_count (stmt_view c.args.body.now)) (expr_count (expr_view c.args.condition.now)) c.args.tally.now c.stmt_limits.new.tally c.expr_limits.new.tally c.expr_limits.result c.in_ok-stmt_limits.ensures c.expr_limits.ensures

pub for_limits-returns-in_err-option_limits : goal.for_limits-returns-in_err-option_limits
for_limits-returns-in_err-option_limits t c =
    let rest : ℕ → List Mark = (λ at. (option_placed (scope_view c.args.scope.now) Operand at (expr_option c.args.condition.now) ++ (option_placed (scope_view c.args.scope.now) Effect (at + (option_count (expr_option c.args.condition.now))) (expr_option c.args.step.now) ++ stmt_marks (scope_view c.args.scope.now) (at + (option_count (expr_option c.args.condition.now)) + (option_count (expr_option c.args.step.now))) (stmt_view c.args.body.now)))) in
    err_first (option_placed (scope_view c.args.scope.now) Effect c.args.tally.now.at (expr_option c.args.start.now)) (rest (c.args.tally.now.at + (option_count (expr_option c.args.start.now)))) _ c.args.tally.now _ _ c.in_err-option_limits.field-0.0 (search rules) c.in_err-option_limits.ensures

pub for_limits-returns : goal.for_limits-returns
for_limits-returns t c =
    then_at (option_placed (scope_view c.args.scope.now) Effect c.args.tally.now.at (expr_option c.args.start.now)) (λ at. (option_placed (scope_view c.args.scope.now) Operand at (expr_option c.args.condition.now) ++ (option_placed (scope_view c.args.scope.now) Effect (at + (option_count (expr_option c.args.condition.now))) (expr_option c.args.step.now) ++ stmt_marks (scope_view c.args.scope.now) (at + (option_count (expr_option c.args.condition.now)) + (option_count (expr_option c.args.step.now))) (stmt_view c.args.body.now)))) (option_count (expr_option c.args.start.now)) ((option_count (expr_option c.args.condition.now)) + ((option_count (expr_option c.args.step.now)) + (stmt_count (stmt_view c.args.body.now)))) c.args.tally.now c.option_limits.new.tally c.turn_limits.new.tally c.turn_limits.result c.in_ok-option_limits.ensures c.turn_limits.ensures

pub for_limits-turn_limits-requires : goal.for_limits-turn_limits-requires
for_limits-turn_limits-requires t c =
    let r = c.requires.room in
    let d0 = c.decreases in
    let n = c.in_ok-option_limits.ensures.counted in
    (omega arith, (c.requires.known, (c.in_ok-option_limits.ensures.of _ c.requires.of, omega arith)))

pub turn_limits-returns-in_err-option_limits : goal.turn_limits-returns-in_err-option_limits
turn_limits-returns-in_err-option_limits t c =
    let rest : ℕ → List Mark = (λ at. option_placed (scope_view c.args.scope.now) Effect at (expr_option c.args.step.now) ++ stmt_marks (scope_view c.args.scope.now) (at + (option_count (expr_option c.args.step.now))) (stmt_view c.args.body.now)) in
    err_first (option_placed (scope_view c.args.scope.now) Operand c.args.tally.now.at (expr_option c.args.condition.now)) (rest (c.args.tally.now.at + (option_count (expr_option c.args.condition.now)))) _ c.args.tally.now _ _ c.in_err-option_limits.field-0.0 (search rules) c.in_err-option_limits.ensures

pub turn_limits-returns : goal.turn_limits-returns
turn_limits-returns t c =
    then_at (option_placed (scope_view c.args.scope.now) Operand c.args.tally.now.at (expr_option c.args.condition.now)) (λ at. option_placed (scope_view c.args.scope.now) Effect at (expr_option c.args.step.now) ++ stmt_marks (scope_view c.args.scope.now) (at + (option_count (expr_option c.args.step.now))) (stmt_view c.args.body.now)) (option_count (expr_option c.args.condition.now)) ((option_count (expr_option c.args.step.now)) + (stmt_count (stmt_view c.args.body.now))) c.args.tally.now c.option_limits.new.tally c.stepped_limits.new.tally c.stepped_limits.result c.in_ok-option_limits.ensures c.stepped_limits.ensures

pub turn_limits-stepped_limits-requires : goal.turn_limits-stepped_limits-requires
turn_limits-stepped_limits-requires t c =
    let r = c.requires.room in
    let d0 = c.decreases in
    let n = c.in_ok-option_limits.ensures.counted in
    (omega arith, (c.requires.known, (c.in_ok-option_limits.ensures.of _ c.requires.of, omega arith)))

pub stepped_limits-returns-in_err-option_limits : goal.stepped_limits-returns-in_err-option_limits
stepped_limits-returns-in_err-option_limits t c =
    let rest : ℕ → List Mark = (λ at. stmt_marks (scope_view c.args.scope.now) at (stmt_view c.args.body.now)) in
    err_first (option_placed (scope_view c.args.scope.now) Effect c.args.tally.now.at (expr_option c.args.step.now)) (rest (c.args.tally.now.at + (option_count (expr_option c.args.step.now)))) _ c.args.tally.now _ _ c.in_err-option_limits.field-0.0 (search rules) c.in_err-option_limits.ensures

pub stepped_limits-returns : goal.stepped_limits-returns
stepped_limits-returns t c =
    then_at (option_placed (scope_view c.args.scope.now) Effect c.args.tally.now.at (expr_option c.args.step.now)) (λ at. stmt_marks (scope_view c.args.scope.now) at (stmt_view c.args.body.now)) (option_count (expr_option c.args.step.now)) (stmt_count (stmt_view c.args.body.now)) c.args.tally.now c.option_limits.new.tally c.stmt_limits.new.tally c.stmt_limits.result c.in_ok-option_limits.ensures c.stmt_limits.ensures

pub stepped_limits-stmt_limits-requires : goal.stepped_limits-stmt_limits-requires
stepped_limits-stmt_limits-requires t c =
    let r = c.requires.room in
    let d0 = c.decreases in
    let n = c.in_ok-option_limits.ensures.counted in
    (omega arith, (c.requires.known, (c.in_ok-option_limits.ensures.of _ c.requires.of, omega arith)))

pub switch_limits-returns-in_err-expr_limits : goal.switch_limits-returns-in_err-expr_limits
switch_limits-returns-in_err-expr_limits t c =
    let rest : ℕ → List Mark = (λ at. (rows_of (need (nat_le (clauses_length (clauses_view c.args.clauses.now)) most_clauses) PastLimit c.args.node)) ++ clauses_marks (scope_view c.args.scope.now) at (clauses_view c.args.clauses.now)) in
    err_first (expr_marks (scope_view c.args.scope.now) c.args.tally.now.at (expr_view c.args.subject.now)) (rest (c.args.tally.now.at + (expr_count (expr_view c.args.subject.now)))) _ c.args.tally.now _ _ c.in_err-expr_limits.field-0.0 (search rules) c.in_err-expr_limits.ensures

pub switch_limits-returns-in_err-check_cases : goal.switch_limits-returns-in_err-check_cases
switch_limits-returns-in_err-check_cases t c =
    then_at (expr_marks (scope_view c.args.scope.now) c.args.tally.now.at (expr_view c.args.subject.now)) (λ at. (rows_of (need (nat_le (clauses_length (clauses_view c.args.clauses.now)) most_clauses) PastLimit c.args.node)) ++ clauses_marks (scope_view c.args.scope.now) at (clauses_view c.args.clauses.now)) (expr_count (expr_view c.args.subject.now)) (clauses_count (clauses_view c.args.clauses.now)) c.args.tally.now c.expr_limits.new.tally _ _ c.in_ok-expr_limits.ensures
    (err_first (rows_of (need (nat_le (clauses_length (clauses_view c.args.clauses.now)) most_clauses) PastLimit c.args.node)) (clauses_marks (scope_view c.args.scope.now) c.expr_limits.new.tally.at (clauses_view c.args.clauses.now)) (clauses_count (clauses_view c.args.clauses.now)) c.expr_limits.new.tally _ _ c.in_err-check_cases.field-0.0 (search rules)
    (need_err _ c.args.node c.expr_limits.new.tally _ c.in_err-check_cases.ensures))

pub switch_limits-returns : goal.switch_limits-returns
switch_limits-returns t c =
    then_at (expr_marks (scope_view c.args.scope.now) c.args.tally.now.at (expr_view c.args.subject.now)) (λ at. (rows_of (need (nat_le (clauses_length (clauses_view c.args.clauses.now)) most_clauses) PastLimit c.args.node)) ++ clauses_marks (scope_view c.args.scope.now) at (clauses_view c.args.clauses.now)) (expr_count (expr_view c.args.subject.now)) (clauses_count (clauses_view c.args.clauses.now)) c.args.tally.now c.expr_limits.new.tally c.clauses_limits.new.tally c.clauses_limits.result c.in_ok-expr_limits.ensures
    (after_none (rows_of (need (nat_le (clauses_length (clauses_view c.args.clauses.now)) most_clauses) PastLimit c.args.node)) (clauses_marks (scope_view c.args.scope.now) c.expr_limits.new.tally.at (clauses_view c.args.clauses.now)) (clauses_count (clauses_view c.args.clauses.now)) c.expr_limits.new.tally c.clauses_limits.new.tally c.clauses_limits.result
    (need_ok _ c.args.node c.expr_limits.new.tally c.in_ok-check_cases.ensures) c.clauses_limits.ensures)

pub switch_limits-clauses_limits-requires : goal.switch_limits-clauses_limits-requires
switch_limits-clauses_limits-requires t c =
    let r = c.requires.room in
    let d0 = c.decreases in
    let n = c.in_ok-expr_limits.ensures.counted in
    let p = positive (expr_view c.args.subject.now) in
    (omega arith, (c.requires.known, (c.in_ok-expr_limits.ensures.of _ c.requires.of, omega arith)))

pub stmt_limits-overflow_add-tally : goal.stmt_limits-overflow_add-tally
stmt_limits-overflow_add-tally t c =
    let r = c.requires.room in
    let p = stmt_positive (stmt_view c.args.stmt.now) in
    omega arith

pub stmt_limits-stmts_limits-requires : goal.stmt_limits-stmts_limits-requires
stmt_limits-stmts_limits-requires t c =
    let r = c.requires.room in
    let d0 = c.decreases in
    let k = ap stmt_count (block_is c.args.stmt.now _ _ c.in-Block.is c.as_slice.ensures) in
    (omega arith, (c.requires.known, (c.requires.of, omega arith)))

pub stmt_limits-returns-in-Block : goal.stmt_limits-returns-in-Block
stmt_limits-returns-in-Block t c =
    of_form (scope_view c.args.scope.now) c.args.stmt.now c.args.tally.now c.stmts_limits.new.tally c.stmts_limits.result _ (stmts_marks (scope_view c.args.scope.now) (c.args.tally.now.at + 1) (stmts_view c.as_slice.result.now)) (stmts_count (stmts_view c.as_slice.result.now)) (block_is c.args.stmt.now _ _ c.in-Block.is c.as_slice.ensures) refl refl c.stmts_limits.ensures

pub stmt_limits-returns-in-Plain : goal.stmt_limits-returns-in-Plain
stmt_limits-returns-in-Plain t c =
    of_form (scope_view c.args.scope.now) c.args.stmt.now c.args.tally.now c.placed_limits.new.tally c.placed_limits.result _ (placed_marks (scope_view c.args.scope.now) Effect (c.args.tally.now.at + 1) (expr_view c.in-Plain.expr)) (expr_count (expr_view c.in-Plain.expr)) (plain_is c.args.stmt.now _ c.in-Plain.is) refl refl c.placed_limits.ensures

pub stmt_limits-guarded_limits-requires-in-While : goal.stmt_limits-guarded_limits-requires-in-While
stmt_limits-guarded_limits-requires-in-While t c =
    let r = c.requires.room in
    let d0 = c.decreases in
    let k = ap stmt_count (while_is c.args.stmt.now _ _ _ c.in-While.is c.deref-in-While.ensures) in
    (omega arith, (c.requires.known, (c.requires.of, omega arith)))

pub stmt_limits-returns-in-While : goal.stmt_limits-returns-in-While
stmt_limits-returns-in-While t c =
    of_form (scope_view c.args.scope.now) c.args.stmt.now c.args.tally.now c.guarded_limits-in-While.new.tally c.guarded_limits-in-While.result _ (expr_marks (scope_view c.args.scope.now) (c.args.tally.now.at + 1) (expr_view c.in-While.condition) ++ stmt_marks (scope_view c.args.scope.now) ((c.args.tally.now.at + 1) + expr_count (expr_view c.in-While.condition)) (stmt_view c.deref-in-While.result.now)) (expr_count (expr_view c.in-While.condition) + stmt_count (stmt_view c.deref-in-While.result.now)) (while_is c.args.stmt.now _ _ _ c.in-While.is c.deref-in-While.ensures) refl refl c.guarded_limits-in-While.ensures

pub stmt_limits-until_limits-requires : goal.stmt_limits-until_limits-requires
stmt_limits-until_limits-requires t c =
    let r = c.requires.room in
    let d0 = c.decreases in
    let k = ap stmt_count (do_is c.args.stmt.now _ _ _ c.in-DoWhile.is c.deref-in-DoWhile.ensures) in
    (omega arith, (c.requires.known, (c.requires.of, omega arith)))

pub stmt_limits-returns-in-DoWhile : goal.stmt_limits-returns-in-DoWhile
stmt_limits-returns-in-DoWhile t c =
    of_form (scope_view c.args.scope.now) c.args.stmt.now c.args.tally.now c.until_limits.new.tally c.until_limits.result _ (stmt_marks (scope_view c.args.scope.now) (c.args.tally.now.at + 1) (stmt_view c.deref-in-DoWhile.result.now) ++ expr_marks (scope_view c.args.scope.now) ((c.args.tally.now.at + 1) + stmt_count (stmt_view c.deref-in-DoWhile.result.now)) (expr_view c.in-DoWhile.condition)) (stmt_count (stmt_view c.deref-in-DoWhile.result.now) + expr_count (expr_view c.in-DoWhile.condition)) (do_is c.args.stmt.now _ _ _ c.in-DoWhile.is c.deref-in-DoWhile.ensures) refl refl c.until_limits.ensures

pub stmt_limits-for_limits-requires : goal.stmt_limits-for_limits-requires
stmt_limits-for_limits-requires t c =
    let r = c.requires.room in
    let d0 = c.decreases in
    let k = ap stmt_count (for_is c.args.stmt.now _ _ _ _ c.in-For.is c.deref-head.ensures c.deref-in-For.ensures) in
    (omega arith, (c.requires.known, (c.requires.of, omega arith)))

pub stmt_limits-returns-in-For : goal.stmt_limits-returns-in-For
stmt_limits-returns-in-For t c =
    of_form (scope_view c.args.scope.now) c.args.stmt.now c.args.tally.now c.for_limits.new.tally c.for_limits.result _ (option_placed (scope_view c.args.scope.now) Effect (c.args.tally.now.at + 1) (expr_option c.deref-head.result.now.start) ++ (option_placed (scope_view c.args.scope.now) Operand ((c.args.tally.now.at + 1) + option_count (expr_option c.deref-head.result.now.start)) (expr_option c.deref-head.result.now.condition) ++ (option_placed (scope_view c.args.scope.now) Effect ((c.args.tally.now.at + 1) + option_count (expr_option c.deref-head.result.now.start) + option_count (expr_option c.deref-head.result.now.condition)) (expr_option c.deref-head.result.now.step) ++ stmt_marks (scope_view c.args.scope.now) ((c.args.tally.now.at + 1) + option_count (expr_option c.deref-head.result.now.start) + option_count (expr_option c.deref-head.result.now.condition) + option_count (expr_option c.deref-head.result.now.step)) (stmt_view c.deref-in-For.result.now)))) (option_count (expr_option c.deref-head.result.now.start) + (option_count (expr_option c.deref-head.result.now.condition) + (option_count (expr_option c.deref-head.result.now.step) + stmt_count (stmt_view c.deref-in-For.result.now)))) (for_is c.args.stmt.now _ _ _ _ c.in-For.is c.deref-head.ensures c.deref-in-For.ensures) (for_marks (scope_view c.args.scope.now) c.args.tally.now.at (expr_option c.deref-head.result.now.start) (expr_option c.deref-head.result.now.condition) (expr_option c.deref-head.result.now.step) (stmt_view c.deref-in-For.result.now)) refl c.for_limits.ensures

pub stmt_limits-returns-in-Return : goal.stmt_limits-returns-in-Return
stmt_limits-returns-in-Return t c =
    of_form (scope_view c.args.scope.now) c.args.stmt.now c.args.tally.now c.option_limits.new.tally c.option_limits.result _ (option_placed (scope_view c.args.scope.now) Operand (c.args.tally.now.at + 1) (expr_option c.in-Return.value)) (option_count (expr_option c.in-Return.value)) (return_is c.args.stmt.now _ c.in-Return.is) (option_is (scope_view c.args.scope.now) (c.args.tally.now.at + 1) (expr_option c.in-Return.value)) refl c.option_limits.ensures

pub stmt_limits-stmt_limits-requires : goal.stmt_limits-stmt_limits-requires
stmt_limits-stmt_limits-requires t c =
    let r = c.requires.room in
    let d0 = c.decreases in
    let k = ap stmt_count (labelled_is c.args.stmt.now _ _ _ c.in-Labelled.is c.deref-in-Labelled.ensures) in
    (omega arith, (c.requires.known, (c.requires.of, omega arith)))

pub stmt_limits-returns-in-Labelled : goal.stmt_limits-returns-in-Labelled
stmt_limits-returns-in-Labelled t c =
    of_form (scope_view c.args.scope.now) c.args.stmt.now c.args.tally.now c.stmt_limits.new.tally c.stmt_limits.result _ (stmt_marks (scope_view c.args.scope.now) (c.args.tally.now.at + 1) (stmt_view c.deref-in-Labelled.result.now)) (stmt_count (stmt_view c.deref-in-Labelled.result.now)) (labelled_is c.args.stmt.now _ _ _ c.in-Labelled.is c.deref-in-Labelled.ensures) refl refl c.stmt_limits.ensures

pub stmt_limits-switch_limits-requires : goal.stmt_limits-switch_limits-requires
stmt_limits-switch_limits-requires t c =
    let r = c.requires.room in
    let d0 = c.decreases in
    let k = ap stmt_count (switch_is c.args.stmt.now _ _ _ c.in-Switch.is c.as_slice-in-Switch.ensures) in
    (omega arith, (c.requires.known, (c.requires.of, omega arith)))

pub stmt_limits-returns-in-Switch : goal.stmt_limits-returns-in-Switch
stmt_limits-returns-in-Switch t c =
    of_form (scope_view c.args.scope.now) c.args.stmt.now c.args.tally.now c.switch_limits.new.tally c.switch_limits.result _ (expr_marks (scope_view c.args.scope.now) (c.args.tally.now.at + 1) (expr_view c.in-Switch.subject) ++ (rows_of (need (nat_le (clauses_length (clauses_view c.as_slice-in-Switch.result.now)) most_clauses) PastLimit c.args.tally.now.at) ++ clauses_marks (scope_view c.args.scope.now) ((c.args.tally.now.at + 1) + expr_count (expr_view c.in-Switch.subject)) (clauses_view c.as_slice-in-Switch.result.now))) (expr_count (expr_view c.in-Switch.subject) + clauses_count (clauses_view c.as_slice-in-Switch.result.now)) (switch_is c.args.stmt.now _ _ _ c.in-Switch.is c.as_slice-in-Switch.ensures) refl refl c.switch_limits.ensures

pub stmts_limits-stmt_limits-requires : goal.stmts_limits-stmt_limits-requires
stmts_limits-stmt_limits-requires t c =
    let r = c.requires.room in
    let d0 = c.decreases in
    let k = body_left c.args.stmts.now c.loop-stmt.stmt-index c.stmt-item.result c.loop-stmt-test.true c.stmt-item.is in
    let left = c.loop-stmt.invariant.left in
    let counted = c.loop-stmt.invariant.counted in
    (omega arith, (c.requires.known, (c.loop-stmt.invariant.of, omega arith)))

pub stmts_limits-returns-in_err-stmt_limits : goal.stmts_limits-returns-in_err-stmt_limits
stmts_limits-returns-in_err-stmt_limits t c =
    from_err _ _ c.args.tally.now _ _ c.in_err-stmt_limits.field-0.0 (search rules) (c.loop-stmt.invariant.rest c.stmt_limits.new.tally (Err c.in_err-stmt_limits.field-0.0) (stmt_ends (scope_view c.args.scope.now) c.loop-stmt.tally c.args.stmts.now c.loop-stmt.stmt-index c.stmt-item.result c.stmt_limits.new.tally c.in_err-stmt_limits.field-0.0 c.loop-stmt-test.true c.stmt-item.is c.in_err-stmt_limits.ensures))

pub stmts_limits-loop-stmt-preserved : goal.stmts_limits-loop-stmt-preserved
stmts_limits-loop-stmt-preserved t c =
    let k = body_left c.args.stmts.now c.loop-stmt.stmt-index c.stmt-item.result c.loop-stmt-test.true c.stmt-item.is in
    let left = c.loop-stmt.invariant.left in
    let counted = c.loop-stmt.invariant.counted in
    let n = c.in_ok-stmt_limits.ensures.counted in
    record {
      rest = λ u r h. c.loop-stmt.invariant.rest u r (next_stmt (scope_view c.args.scope.now) c.loop-stmt.tally c.args.stmts.now c.loop-stmt.stmt-index c.stmt-item.result c.stmt_limits.new.tally c.loop-stmt-test.true c.stmt-item.is c.in_ok-stmt_limits.ensures u r h);
      left = omega arith;
      counted = omega arith;
      of = c.in_ok-stmt_limits.ensures.of _ c.loop-stmt.invariant.of;
    }

pub stmts_limits-returns : goal.stmts_limits-returns
stmts_limits-returns t c =
    c.loop-stmt.invariant.rest c.loop-stmt.tally (Ok tt) (no_stmts_left (scope_view c.args.scope.now) c.loop-stmt.tally c.args.stmts.now c.loop-stmt.stmt-index c.loop-stmt-test.false)

pub clauses_limits-stmts_limits-requires : goal.clauses_limits-stmts_limits-requires
clauses_limits-stmts_limits-requires t c =
    let r = c.requires.room in
    let d0 = c.decreases in
    let k = clauses_left c.args.clauses.now c.loop-clause.clause-index c.clause-item.result c.loop-clause-test.true c.clause-item.is in
    let left = c.loop-clause.invariant.left in
    let counted = c.loop-clause.invariant.counted in
    let b = ap (λ (x : List Stmt). stmts_count (stmts_view x)) c.as_slice.ensures in
    (omega arith, (c.requires.known, (c.loop-clause.invariant.of, omega arith)))

pub clauses_limits-returns-in_err-stmts_limits : goal.clauses_limits-returns-in_err-stmts_limits
clauses_limits-returns-in_err-stmts_limits t c =
    from_err _ _ c.args.tally.now _ _ c.in_err-stmts_limits.field-0.0 (search rules) (c.loop-clause.invariant.rest c.stmts_limits.new.tally (Err c.in_err-stmts_limits.field-0.0) (clause_ends (scope_view c.args.scope.now) c.loop-clause.tally c.args.clauses.now c.loop-clause.clause-index c.clause-item.result c.as_slice.result.now c.stmts_limits.new.tally c.in_err-stmts_limits.field-0.0 c.loop-clause-test.true c.clause-item.is c.as_slice.ensures c.in_err-stmts_limits.ensures))

pub clauses_limits-loop-clause-preserved : goal.clauses_limits-loop-clause-preserved
clauses_limits-loop-clause-preserved t c =
    let k = clauses_left c.args.clauses.now c.loop-clause.clause-index c.clause-item.result c.loop-clause-test.true c.clause-item.is in
    let left = c.loop-clause.invariant.left in
    let counted = c.loop-clause.invariant.counted in
    let n = c.in_ok-stmts_limits.ensures.counted in
    let b = ap (λ (x : List Stmt). stmts_count (stmts_view x)) c.as_slice.ensures in
    record {
      rest = λ u r h. c.loop-clause.invariant.rest u r (next_clause (scope_view c.args.scope.now) c.loop-clause.tally c.args.clauses.now c.loop-clause.clause-index c.clause-item.result c.as_slice.result.now c.stmts_limits.new.tally c.loop-clause-test.true c.clause-item.is c.as_slice.ensures c.in_ok-stmts_limits.ensures u r h);
      left = omega arith;
      counted = omega arith;
      of = c.in_ok-stmts_limits.ensures.of _ c.loop-clause.invariant.of;
    }

pub clauses_limits-returns : goal.clauses_limits-returns
clauses_limits-returns t c =
    c.loop-clause.invariant.rest c.loop-clause.tally (Ok tt) (no_clauses_left (scope_view c.args.scope.now) c.loop-clause.tally c.args.clauses.now c.loop-clause.clause-index c.loop-clause-test.false)

pub stmt_limits-placed_limits-requires-clause-room : goal.stmt_limits-placed_limits-requires-clause-room
stmt_limits-placed_limits-requires-clause-room t c =
    let r = c.requires.room in
    let k = ap stmt_count (plain_is c.args.stmt.now _ c.in-Plain.is) in
    omega arith

pub stmt_limits-option_limits-requires-clause-room : goal.stmt_limits-option_limits-requires-clause-room
stmt_limits-option_limits-requires-clause-room t c =
    let r = c.requires.room in
    let k = ap stmt_count (return_is c.args.stmt.now _ c.in-Return.is) in
    omega arith

pub stmt_limits-guarded_limits-requires : goal.stmt_limits-guarded_limits-requires
stmt_limits-guarded_limits-requires t c =
    let r = c.requires.room in
    let d0 = c.decreases in
    let k = ap stmt_count (if_only_is c.args.stmt.now _ _ _ _ c.in-If.is c.in-None.is c.deref.ensures) in
    (omega arith, (c.requires.known, (c.requires.of, omega arith)))

pub stmt_limits-choice_limits-requires : goal.stmt_limits-choice_limits-requires
stmt_limits-choice_limits-requires t c =
    let r = c.requires.room in
    let d0 = c.decreases in
    let k = ap stmt_count (if_else_is c.args.stmt.now _ _ _ _ _ _ c.in-If.is c.in-Some.is c.deref-in-Some.ensures c.deref-in-Some-2.ensures) in
    (omega arith, (c.requires.known, (c.requires.of, omega arith)))

pub stmt_limits-returns-in-None : goal.stmt_limits-returns-in-None
stmt_limits-returns-in-None t c =
    of_form (scope_view c.args.scope.now) c.args.stmt.now c.args.tally.now c.guarded_limits.new.tally c.guarded_limits.result _ (expr_marks (scope_view c.args.scope.now) (c.args.tally.now.at + 1) (expr_view c.in-If.condition) ++ stmt_marks (scope_view c.args.scope.now) ((c.args.tally.now.at + 1) + expr_count (expr_view c.in-If.condition)) (stmt_view c.deref.result.now)) (expr_count (expr_view c.in-If.condition) + stmt_count (stmt_view c.deref.result.now)) (if_only_is c.args.stmt.now _ _ _ _ c.in-If.is c.in-None.is c.deref.ensures) refl refl c.guarded_limits.ensures

pub stmt_limits-returns-in-Some : goal.stmt_limits-returns-in-Some
stmt_limits-returns-in-Some t c =
    of_form (scope_view c.args.scope.now) c.args.stmt.now c.args.tally.now c.choice_limits.new.tally c.choice_limits.result _ (expr_marks (scope_view c.args.scope.now) (c.args.tally.now.at + 1) (expr_view c.in-If.condition) ++ (stmt_marks (scope_view c.args.scope.now) ((c.args.tally.now.at + 1) + expr_count (expr_view c.in-If.condition)) (stmt_view c.deref-in-Some.result.now) ++ stmt_marks (scope_view c.args.scope.now) ((c.args.tally.now.at + 1) + expr_count (expr_view c.in-If.condition) + stmt_count (stmt_view c.deref-in-Some.result.now)) (stmt_view c.deref-in-Some-2.result.now))) (expr_count (expr_view c.in-If.condition) + (stmt_count (stmt_view c.deref-in-Some.result.now) + stmt_count (stmt_view c.deref-in-Some-2.result.now))) (if_else_is c.args.stmt.now _ _ _ _ _ _ c.in-If.is c.in-Some.is c.deref-in-Some.ensures c.deref-in-Some-2.ensures) refl refl c.choice_limits.ensures

pub stmt_limits-returns-in-Empty : goal.stmt_limits-returns-in-Empty
stmt_limits-returns-in-Empty t c = leaf_any (scope_view c.args.scope.now) c.args.stmt.now c.args.tally.now c.in-Empty.is

pub stmt_limits-returns-in-Empty-2 : goal.stmt_limits-returns-in-Empty-2
stmt_limits-returns-in-Empty-2 t c = leaf_any (scope_view c.args.scope.now) c.args.stmt.now c.args.tally.now c.in-Empty.is

pub stmt_limits-returns-in-Empty-3 : goal.stmt_limits-returns-in-Empty-3
stmt_limits-returns-in-Empty-3 t c = leaf_any (scope_view c.args.scope.now) c.args.stmt.now c.args.tally.now c.in-Empty.is

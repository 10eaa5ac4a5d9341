-- What the calls in a statement require and what it finds, by its form.
use Rattle.std.proofs.Common.{rules, ◌≡◌, Err, refl, sym, ap, ◌∙◌, arith}
use Rattle.std.proofs.lemmas.Result.{IfOk-weaker}
use Rattle.asm_tree.specs.declared.tree.Stmt.{Stmt}
use Rattle.asm_tree.specs.Views.{expr_view, stmt_view}
use Rattle.asm_lang_valid.specs.Rows.{first, stmt_count}
use Rattle.asm_lang_valid.specs.NameRows as rows
use Rattle.asm_names.specs.Scopes.{scope_view}
use Rattle.asm_validate_names.proofs.StatementRows.{block_is, plain_is, return_is, while_is, do_is, labelled_is, for_is, else_rows, else_count, if_count, while_rows, do_rows, switch_rows, if_rows, for_rows}
use Rattle.asm_validate_names.proofs.Found.{stops, passes, not_ok, clauses_step, clauses_after, clauses_within}
use Rattle.asm_validate_names.proofs.Shapes.{positive, stmt_positive, switch_is}
use Rattle.asm_validate_names.proofs.statements.+statements.Goals as goal

pub stmt_names-overflow_add-at : goal.stmt_names-overflow_add-at
stmt_names-overflow_add-at t c =
    let r = c.requires.room in
    let p = stmt_positive (stmt_view c.args.stmt.now) in
    omega arith

pub stmt_names-clauses_names-requires : goal.stmt_names-clauses_names-requires
stmt_names-clauses_names-requires t c =
    let r = c.requires.room in
    let k = ap stmt_count (switch_is c.args.stmt.now _ _ _ c.in-Switch.is c.as_slice-in-Switch.ensures) in
    let p = positive (expr_view c.in-Switch.subject) in
    let n = c.in_ok-expr_names-in-Switch.ensures.counted in
    let d0 = c.decreases in
    (omega arith, (c.requires.known, omega arith))

pub clauses_names-stmts_names-requires : goal.clauses_names-stmts_names-requires
clauses_names-stmts_names-requires t c =
    let k = clauses_step c.args.clauses.now c.loop-clause.clause-index c.clause-item.result c.as_slice.result.now c.loop-clause-test.true c.clause-item.is c.as_slice.ensures in
    let left = c.loop-clause.invariant.left in
    let counted = c.loop-clause.invariant.counted in
    let r = c.requires.room in
    let d0 = c.decreases in
    (omega arith, (c.requires.known, omega arith))

pub clauses_names-returns-in_err-stmts_names-clause-is : goal.clauses_names-returns-in_err-stmts_names-clause-is
clauses_names-returns-in_err-stmts_names-clause-is t c =
    c.loop-clause.invariant.rest
    ∙ clauses_within _ c.args.clauses.now c.loop-clause.clause-index c.clause-item.result c.as_slice.result.now _ _ c.loop-clause-test.true c.clause-item.is c.as_slice.ensures c.in_err-stmts_names.ensures.is
    ∙ search rules

pub clauses_names-loop-clause-preserved : goal.clauses_names-loop-clause-preserved
clauses_names-loop-clause-preserved t c =
    let k = clauses_step c.args.clauses.now c.loop-clause.clause-index c.clause-item.result c.as_slice.result.now c.loop-clause-test.true c.clause-item.is c.as_slice.ensures in
    let left = c.loop-clause.invariant.left in
    let counted = c.loop-clause.invariant.counted in
    let n = c.in_ok-stmts_names.ensures.counted in
    record {
      rest = c.loop-clause.invariant.rest ∙ clauses_after _ c.args.clauses.now c.loop-clause.clause-index c.clause-item.result c.as_slice.result.now _ _ c.loop-clause-test.true c.clause-item.is c.as_slice.ensures c.in_ok-stmts_names.ensures.is n;
      left = omega arith;
      counted = omega arith;
    }

pub stmt_names-stmts_names-requires : goal.stmt_names-stmts_names-requires
stmt_names-stmts_names-requires t c =
    let k = ap stmt_count (block_is c.args.stmt.now _ _ c.in-Block.is c.as_slice.ensures) in
    let r = c.requires.room in
    let d0 = c.decreases in
    (omega arith, (c.requires.known, omega arith))

pub stmt_names-returns-in-Block-clause-is : goal.stmt_names-returns-in-Block-clause-is
stmt_names-returns-in-Block-clause-is t c =
    ap (λ t. first (rows.stmt_names (scope_view c.args.scope.now) c.args.at.now t)) (block_is c.args.stmt.now _ _ c.in-Block.is c.as_slice.ensures) ∙ c.stmts_names.ensures.is

pub stmt_names-returns-in-Block-clause-counted : goal.stmt_names-returns-in-Block-clause-counted
stmt_names-returns-in-Block-clause-counted t c =
    let k = ap stmt_count (block_is c.args.stmt.now _ _ c.in-Block.is c.as_slice.ensures) in
    IfOk-weaker c.stmts_names.result _ _ (λ u h. omega arith) c.stmts_names.ensures.counted

pub stmt_names-expr_names-requires : goal.stmt_names-expr_names-requires
stmt_names-expr_names-requires t c =
    let k = ap stmt_count (plain_is c.args.stmt.now _ c.in-Plain.is) in
    let r = c.requires.room in
    record { known = c.requires.known; room = omega arith }

pub stmt_names-returns-in-Plain-clause-is : goal.stmt_names-returns-in-Plain-clause-is
stmt_names-returns-in-Plain-clause-is t c =
    ap (λ t. first (rows.stmt_names (scope_view c.args.scope.now) c.args.at.now t)) (plain_is c.args.stmt.now _ c.in-Plain.is) ∙ c.expr_names.ensures.is

pub stmt_names-returns-in-Plain-clause-counted : goal.stmt_names-returns-in-Plain-clause-counted
stmt_names-returns-in-Plain-clause-counted t c =
    let k = ap stmt_count (plain_is c.args.stmt.now _ c.in-Plain.is) in
    IfOk-weaker c.expr_names.result _ _ (λ u h. omega arith) c.expr_names.ensures.counted

pub stmt_names-expr_names-requires-in-If : goal.stmt_names-expr_names-requires-in-If
stmt_names-expr_names-requires-in-If t c =
    let k = if_count c.args.stmt.now c.in-If.condition c.in-If.yes c.in-If.no c.in-If.yes.value c.in-If.is refl in
    let r = c.requires.room in
    record { known = c.requires.known; room = omega arith }

pub stmt_names-returns-in_err-expr_names-in-If : goal.stmt_names-returns-in_err-expr_names-in-If
stmt_names-returns-in_err-expr_names-in-If t c =
    let e : c.from_residual.result ≡ Err c.in_err-expr_names-in-If.field-0.0 = search rules in
    record { is = stops _ _ _ c.from_residual.result _ (if_rows c.args.stmt.now (scope_view c.args.scope.now) c.args.at.now c.in-If.condition c.in-If.yes c.in-If.no _ _ _ c.in-If.is refl refl refl) c.in_err-expr_names-in-If.ensures.is e; counted = not_ok _ c.from_residual.result _ e }

pub stmt_names-stmt_names-requires : goal.stmt_names-stmt_names-requires
stmt_names-stmt_names-requires t c =
    let k = if_count c.args.stmt.now c.in-If.condition c.in-If.yes c.in-If.no c.deref.result.now c.in-If.is c.deref.ensures in
    let n = c.in_ok-expr_names-in-If.ensures.counted in
    let r = c.requires.room in
    let d0 = c.decreases in
    (omega arith, (c.requires.known, omega arith))

pub stmt_names-returns-in_err-stmt_names-in-If : goal.stmt_names-returns-in_err-stmt_names-in-If
stmt_names-returns-in_err-stmt_names-in-If t c =
    let e : c.from_residual-in_err-stmt_names-in-If.result ≡ Err c.in_err-stmt_names-in-If.field-0.0 = search rules in
    record { is = stops _ _ _ c.from_residual-in_err-stmt_names-in-If.result _ (passes _ _ _ (if_rows c.args.stmt.now (scope_view c.args.scope.now) c.args.at.now c.in-If.condition c.in-If.yes c.in-If.no c.deref.result.now c.expr_names-in-If.new.at _ c.in-If.is c.deref.ensures c.in_ok-expr_names-in-If.ensures.counted refl) c.in_ok-expr_names-in-If.ensures.is) c.in_err-stmt_names-in-If.ensures.is e; counted = not_ok _ c.from_residual-in_err-stmt_names-in-If.result _ e }

pub stmt_names-stmt_names-requires-in-Some : goal.stmt_names-stmt_names-requires-in-Some
stmt_names-stmt_names-requires-in-Some t c =
    let k = if_count c.args.stmt.now c.in-If.condition c.in-If.yes c.in-If.no c.deref.result.now c.in-If.is c.deref.ensures in
    let n = c.in_ok-expr_names-in-If.ensures.counted in
    let m = c.in_ok-stmt_names-in-If.ensures.counted in
    let o = ap else_count c.in-Some.is in
    let d = ap (λ (x : Stmt). stmt_count (stmt_view x)) c.deref-in-Some.ensures in
    let r = c.requires.room in
    let d0 = c.decreases in
    (omega arith, (c.requires.known, omega arith))

pub stmt_names-returns-in-None-clause-is : goal.stmt_names-returns-in-None-clause-is
stmt_names-returns-in-None-clause-is t c =
    passes _ _ _ (passes _ _ _ (if_rows c.args.stmt.now (scope_view c.args.scope.now) c.args.at.now c.in-If.condition c.in-If.yes c.in-If.no c.deref.result.now c.expr_names-in-If.new.at c.stmt_names.new.at c.in-If.is c.deref.ensures c.in_ok-expr_names-in-If.ensures.counted c.in_ok-stmt_names-in-If.ensures.counted) c.in_ok-expr_names-in-If.ensures.is) c.in_ok-stmt_names-in-If.ensures.is ∙ ap (λ o. first (else_rows (scope_view c.args.scope.now) c.stmt_names.new.at o)) c.in-None.is

pub stmt_names-returns-in-None-clause-counted : goal.stmt_names-returns-in-None-clause-counted
stmt_names-returns-in-None-clause-counted t c =
    let k = if_count c.args.stmt.now c.in-If.condition c.in-If.yes c.in-If.no c.deref.result.now c.in-If.is c.deref.ensures in
    let n = c.in_ok-expr_names-in-If.ensures.counted in
    let m = c.in_ok-stmt_names-in-If.ensures.counted in
    let o = ap else_count c.in-None.is in
    omega arith

pub stmt_names-returns-in-Some-clause-is : goal.stmt_names-returns-in-Some-clause-is
stmt_names-returns-in-Some-clause-is t c =
    passes _ _ _ (passes _ _ _ (if_rows c.args.stmt.now (scope_view c.args.scope.now) c.args.at.now c.in-If.condition c.in-If.yes c.in-If.no c.deref.result.now c.expr_names-in-If.new.at c.stmt_names.new.at c.in-If.is c.deref.ensures c.in_ok-expr_names-in-If.ensures.counted c.in_ok-stmt_names-in-If.ensures.counted) c.in_ok-expr_names-in-If.ensures.is) c.in_ok-stmt_names-in-If.ensures.is ∙ ap (λ o. first (else_rows (scope_view c.args.scope.now) c.stmt_names.new.at o)) c.in-Some.is ∙ ap (λ (x : Stmt). first (rows.stmt_names (scope_view c.args.scope.now) c.stmt_names.new.at (stmt_view x))) (sym c.deref-in-Some.ensures) ∙ c.stmt_names-in-Some.ensures.is

pub stmt_names-returns-in-Some-clause-counted : goal.stmt_names-returns-in-Some-clause-counted
stmt_names-returns-in-Some-clause-counted t c =
    let k = if_count c.args.stmt.now c.in-If.condition c.in-If.yes c.in-If.no c.deref.result.now c.in-If.is c.deref.ensures in
    let n = c.in_ok-expr_names-in-If.ensures.counted in
    let m = c.in_ok-stmt_names-in-If.ensures.counted in
    let o = ap else_count c.in-Some.is in
    let d = ap (λ (x : Stmt). stmt_count (stmt_view x)) c.deref-in-Some.ensures in
    IfOk-weaker c.stmt_names-in-Some.result _ _ (λ u h. omega arith) c.stmt_names-in-Some.ensures.counted

pub stmt_names-option_names-requires : goal.stmt_names-option_names-requires
stmt_names-option_names-requires t c =
    let k = ap stmt_count (return_is c.args.stmt.now _ c.in-Return.is) in
    let r = c.requires.room in
    record { known = c.requires.known; room = omega arith }

pub stmt_names-returns-in-Return-clause-is : goal.stmt_names-returns-in-Return-clause-is
stmt_names-returns-in-Return-clause-is t c =
    ap (λ t. first (rows.stmt_names (scope_view c.args.scope.now) c.args.at.now t)) (return_is c.args.stmt.now _ c.in-Return.is) ∙ c.option_names.ensures.is

pub stmt_names-returns-in-Return-clause-counted : goal.stmt_names-returns-in-Return-clause-counted
stmt_names-returns-in-Return-clause-counted t c =
    let k = ap stmt_count (return_is c.args.stmt.now _ c.in-Return.is) in
    IfOk-weaker c.option_names.result _ _ (λ u h. omega arith) c.option_names.ensures.counted

pub stmt_names-expr_names-requires-in-While : goal.stmt_names-expr_names-requires-in-While
stmt_names-expr_names-requires-in-While t c =
    let k = ap stmt_count (while_is c.args.stmt.now c.in-While.condition c.in-While.body _ c.in-While.is refl) in
    let r = c.requires.room in
    record { known = c.requires.known; room = omega arith }

pub stmt_names-returns-in_err-expr_names-in-While : goal.stmt_names-returns-in_err-expr_names-in-While
stmt_names-returns-in_err-expr_names-in-While t c =
    let e : c.from_residual-in_err-expr_names-in-While.result ≡ Err c.in_err-expr_names-in-While.field-0.0 = search rules in
    record { is = stops _ _ _ c.from_residual-in_err-expr_names-in-While.result _ (while_rows c.args.stmt.now (scope_view c.args.scope.now) c.args.at.now c.in-While.condition c.in-While.body _ _ c.in-While.is refl refl) c.in_err-expr_names-in-While.ensures.is e; counted = not_ok _ c.from_residual-in_err-expr_names-in-While.result _ e }

pub stmt_names-stmt_names-requires-in-While : goal.stmt_names-stmt_names-requires-in-While
stmt_names-stmt_names-requires-in-While t c =
    let k = ap stmt_count (while_is c.args.stmt.now c.in-While.condition c.in-While.body c.deref-in-While.result.now c.in-While.is c.deref-in-While.ensures) in
    let n = c.in_ok-expr_names-in-While.ensures.counted in
    let r = c.requires.room in
    let d0 = c.decreases in
    (omega arith, (c.requires.known, omega arith))

pub stmt_names-returns-in_ok-expr_names-in-While-clause-is : goal.stmt_names-returns-in_ok-expr_names-in-While-clause-is
stmt_names-returns-in_ok-expr_names-in-While-clause-is t c =
    passes _ _ _ (while_rows c.args.stmt.now (scope_view c.args.scope.now) c.args.at.now c.in-While.condition c.in-While.body c.deref-in-While.result.now c.expr_names-in-While.new.at c.in-While.is c.deref-in-While.ensures c.in_ok-expr_names-in-While.ensures.counted) c.in_ok-expr_names-in-While.ensures.is ∙ c.stmt_names-in-While.ensures.is

pub stmt_names-returns-in_ok-expr_names-in-While-clause-counted : goal.stmt_names-returns-in_ok-expr_names-in-While-clause-counted
stmt_names-returns-in_ok-expr_names-in-While-clause-counted t c =
    let k = ap stmt_count (while_is c.args.stmt.now c.in-While.condition c.in-While.body c.deref-in-While.result.now c.in-While.is c.deref-in-While.ensures) in
    let n = c.in_ok-expr_names-in-While.ensures.counted in
    IfOk-weaker c.stmt_names-in-While.result _ _ (λ u h. omega arith) c.stmt_names-in-While.ensures.counted

pub stmt_names-stmt_names-requires-in-DoWhile : goal.stmt_names-stmt_names-requires-in-DoWhile
stmt_names-stmt_names-requires-in-DoWhile t c =
    let k = ap stmt_count (do_is c.args.stmt.now c.in-DoWhile.body c.in-DoWhile.condition c.deref-in-DoWhile.result.now c.in-DoWhile.is c.deref-in-DoWhile.ensures) in
    let r = c.requires.room in
    let d0 = c.decreases in
    (omega arith, (c.requires.known, omega arith))

pub stmt_names-returns-in_err-stmt_names-in-DoWhile : goal.stmt_names-returns-in_err-stmt_names-in-DoWhile
stmt_names-returns-in_err-stmt_names-in-DoWhile t c =
    let e : c.from_residual-in_err-stmt_names-in-DoWhile.result ≡ Err c.in_err-stmt_names-in-DoWhile.field-0.0 = search rules in
    record { is = stops _ _ _ c.from_residual-in_err-stmt_names-in-DoWhile.result _ (do_rows c.args.stmt.now (scope_view c.args.scope.now) c.args.at.now c.in-DoWhile.body c.in-DoWhile.condition c.deref-in-DoWhile.result.now _ c.in-DoWhile.is c.deref-in-DoWhile.ensures refl) c.in_err-stmt_names-in-DoWhile.ensures.is e; counted = not_ok _ c.from_residual-in_err-stmt_names-in-DoWhile.result _ e }

pub stmt_names-expr_names-requires-in-DoWhile : goal.stmt_names-expr_names-requires-in-DoWhile
stmt_names-expr_names-requires-in-DoWhile t c =
    let k = ap stmt_count (do_is c.args.stmt.now c.in-DoWhile.body c.in-DoWhile.condition c.deref-in-DoWhile.result.now c.in-DoWhile.is c.deref-in-DoWhile.ensures) in
    let n = c.in_ok-stmt_names-in-DoWhile.ensures.counted in
    let r = c.requires.room in
    record { known = c.requires.known; room = omega arith }

pub stmt_names-returns-in_ok-stmt_names-in-DoWhile-clause-is : goal.stmt_names-returns-in_ok-stmt_names-in-DoWhile-clause-is
stmt_names-returns-in_ok-stmt_names-in-DoWhile-clause-is t c =
    passes _ _ _ (do_rows c.args.stmt.now (scope_view c.args.scope.now) c.args.at.now c.in-DoWhile.body c.in-DoWhile.condition c.deref-in-DoWhile.result.now c.stmt_names-in-DoWhile.new.at c.in-DoWhile.is c.deref-in-DoWhile.ensures c.in_ok-stmt_names-in-DoWhile.ensures.counted) c.in_ok-stmt_names-in-DoWhile.ensures.is ∙ c.expr_names-in-DoWhile.ensures.is

pub stmt_names-returns-in_ok-stmt_names-in-DoWhile-clause-counted : goal.stmt_names-returns-in_ok-stmt_names-in-DoWhile-clause-counted
stmt_names-returns-in_ok-stmt_names-in-DoWhile-clause-counted t c =
    let k = ap stmt_count (do_is c.args.stmt.now c.in-DoWhile.body c.in-DoWhile.condition c.deref-in-DoWhile.result.now c.in-DoWhile.is c.deref-in-DoWhile.ensures) in
    let n = c.in_ok-stmt_names-in-DoWhile.ensures.counted in
    IfOk-weaker c.expr_names-in-DoWhile.result _ _ (λ u h. omega arith) c.expr_names-in-DoWhile.ensures.counted

pub stmt_names-option_names-requires-in-For : goal.stmt_names-option_names-requires-in-For
stmt_names-option_names-requires-in-For t c =
    let k = ap stmt_count (for_is c.args.stmt.now c.in-For.head c.in-For.body c.deref-in-For.result.now c.in-For.head.value c.in-For.head.value c.in-For.body.value c.in-For.is c.deref-in-For.ensures refl refl refl) in
    let r = c.requires.room in
    record { known = c.requires.known; room = omega arith }

pub stmt_names-returns-in_err-option_names-in-For : goal.stmt_names-returns-in_err-option_names-in-For
stmt_names-returns-in_err-option_names-in-For t c =
    let e : c.from_residual-in_err-option_names-in-For.result ≡ Err c.in_err-option_names-in-For.field-0.0 = search rules in
    record { is = stops _ _ _ c.from_residual-in_err-option_names-in-For.result _ (for_rows c.args.stmt.now (scope_view c.args.scope.now) c.args.at.now c.in-For.head c.in-For.body c.deref-in-For.result.now c.in-For.head.value c.in-For.head.value c.in-For.body.value _ _ _ c.in-For.is c.deref-in-For.ensures refl refl refl refl refl refl) c.in_err-option_names-in-For.ensures.is e; counted = not_ok _ c.from_residual-in_err-option_names-in-For.result _ e }

pub stmt_names-option_names-requires-in-For-2 : goal.stmt_names-option_names-requires-in-For-2
stmt_names-option_names-requires-in-For-2 t c =
    let k = ap stmt_count (for_is c.args.stmt.now c.in-For.head c.in-For.body c.deref-in-For.result.now c.deref-in-For-2.result.now c.in-For.head.value c.in-For.body.value c.in-For.is c.deref-in-For.ensures c.deref-in-For-2.ensures refl refl) in
    let n0 = c.in_ok-option_names-in-For.ensures.counted in
    let r = c.requires.room in
    record { known = c.requires.known; room = omega arith }

pub stmt_names-returns-in_err-option_names-in-For-2 : goal.stmt_names-returns-in_err-option_names-in-For-2
stmt_names-returns-in_err-option_names-in-For-2 t c =
    let e : c.from_residual-in_err-option_names-in-For-2.result ≡ Err c.in_err-option_names-in-For-2.field-0.0 = search rules in
    record { is = stops _ _ _ c.from_residual-in_err-option_names-in-For-2.result _ (passes _ _ _ (for_rows c.args.stmt.now (scope_view c.args.scope.now) c.args.at.now c.in-For.head c.in-For.body c.deref-in-For.result.now c.deref-in-For-2.result.now c.in-For.head.value c.in-For.body.value c.option_names-in-For.new.at _ _ c.in-For.is c.deref-in-For.ensures c.deref-in-For-2.ensures refl refl c.in_ok-option_names-in-For.ensures.counted refl refl) c.in_ok-option_names-in-For.ensures.is) c.in_err-option_names-in-For-2.ensures.is e; counted = not_ok _ c.from_residual-in_err-option_names-in-For-2.result _ e }

pub stmt_names-option_names-requires-in-For-3 : goal.stmt_names-option_names-requires-in-For-3
stmt_names-option_names-requires-in-For-3 t c =
    let k = ap stmt_count (for_is c.args.stmt.now c.in-For.head c.in-For.body c.deref-in-For.result.now c.deref-in-For-2.result.now c.deref-in-For-3.result.now c.in-For.body.value c.in-For.is c.deref-in-For.ensures c.deref-in-For-2.ensures c.deref-in-For-3.ensures refl) in
    let n0 = c.in_ok-option_names-in-For.ensures.counted in
    let n1 = c.in_ok-option_names-in-For-2.ensures.counted in
    let r = c.requires.room in
    record { known = c.requires.known; room = omega arith }

pub stmt_names-returns-in_err-option_names-in-For-3 : goal.stmt_names-returns-in_err-option_names-in-For-3
stmt_names-returns-in_err-option_names-in-For-3 t c =
    let e : c.from_residual-in_err-option_names-in-For-3.result ≡ Err c.in_err-option_names-in-For-3.field-0.0 = search rules in
    record { is = stops _ _ _ c.from_residual-in_err-option_names-in-For-3.result _ (passes _ _ _ (passes _ _ _ (for_rows c.args.stmt.now (scope_view c.args.scope.now) c.args.at.now c.in-For.head c.in-For.body c.deref-in-For.result.now c.deref-in-For-2.result.now c.deref-in-For-3.result.now c.in-For.body.value c.option_names-in-For.new.at c.option_names-in-For-2.new.at _ c.in-For.is c.deref-in-For.ensures c.deref-in-For-2.ensures c.deref-in-For-3.ensures refl c.in_ok-option_names-in-For.ensures.counted c.in_ok-option_names-in-For-2.ensures.counted refl) c.in_ok-option_names-in-For.ensures.is) c.in_ok-option_names-in-For-2.ensures.is) c.in_err-option_names-in-For-3.ensures.is e; counted = not_ok _ c.from_residual-in_err-option_names-in-For-3.result _ e }

pub stmt_names-stmt_names-requires-in-For : goal.stmt_names-stmt_names-requires-in-For
stmt_names-stmt_names-requires-in-For t c =
    let k = ap stmt_count (for_is c.args.stmt.now c.in-For.head c.in-For.body c.deref-in-For.result.now c.deref-in-For-2.result.now c.deref-in-For-3.result.now c.deref-in-For-4.result.now c.in-For.is c.deref-in-For.ensures c.deref-in-For-2.ensures c.deref-in-For-3.ensures c.deref-in-For-4.ensures) in
    let n0 = c.in_ok-option_names-in-For.ensures.counted in
    let n1 = c.in_ok-option_names-in-For-2.ensures.counted in
    let n2 = c.in_ok-option_names-in-For-3.ensures.counted in
    let r = c.requires.room in
    let d0 = c.decreases in
    (omega arith, (c.requires.known, omega arith))

pub stmt_names-returns-in_ok-option_names-in-For-3-clause-is : goal.stmt_names-returns-in_ok-option_names-in-For-3-clause-is
stmt_names-returns-in_ok-option_names-in-For-3-clause-is t c =
    passes _ _ _ (passes _ _ _ (passes _ _ _ (for_rows c.args.stmt.now (scope_view c.args.scope.now) c.args.at.now c.in-For.head c.in-For.body c.deref-in-For.result.now c.deref-in-For-2.result.now c.deref-in-For-3.result.now c.deref-in-For-4.result.now c.option_names-in-For.new.at c.option_names-in-For-2.new.at c.option_names-in-For-3.new.at c.in-For.is c.deref-in-For.ensures c.deref-in-For-2.ensures c.deref-in-For-3.ensures c.deref-in-For-4.ensures c.in_ok-option_names-in-For.ensures.counted c.in_ok-option_names-in-For-2.ensures.counted c.in_ok-option_names-in-For-3.ensures.counted) c.in_ok-option_names-in-For.ensures.is) c.in_ok-option_names-in-For-2.ensures.is) c.in_ok-option_names-in-For-3.ensures.is ∙ c.stmt_names-in-For.ensures.is

pub stmt_names-returns-in_ok-option_names-in-For-3-clause-counted : goal.stmt_names-returns-in_ok-option_names-in-For-3-clause-counted
stmt_names-returns-in_ok-option_names-in-For-3-clause-counted t c =
    let k = ap stmt_count (for_is c.args.stmt.now c.in-For.head c.in-For.body c.deref-in-For.result.now c.deref-in-For-2.result.now c.deref-in-For-3.result.now c.deref-in-For-4.result.now c.in-For.is c.deref-in-For.ensures c.deref-in-For-2.ensures c.deref-in-For-3.ensures c.deref-in-For-4.ensures) in
    let n0 = c.in_ok-option_names-in-For.ensures.counted in
    let n1 = c.in_ok-option_names-in-For-2.ensures.counted in
    let n2 = c.in_ok-option_names-in-For-3.ensures.counted in
    IfOk-weaker c.stmt_names-in-For.result _ _ (λ u h. omega arith) c.stmt_names-in-For.ensures.counted

pub stmt_names-stmt_names-requires-in-Labelled : goal.stmt_names-stmt_names-requires-in-Labelled
stmt_names-stmt_names-requires-in-Labelled t c =
    let k = ap stmt_count (labelled_is c.args.stmt.now _ _ _ c.in-Labelled.is c.deref-in-Labelled.ensures) in
    let r = c.requires.room in
    let d0 = c.decreases in
    (omega arith, (c.requires.known, omega arith))

pub stmt_names-returns-in-Labelled-clause-is : goal.stmt_names-returns-in-Labelled-clause-is
stmt_names-returns-in-Labelled-clause-is t c =
    ap (λ t. first (rows.stmt_names (scope_view c.args.scope.now) c.args.at.now t)) (labelled_is c.args.stmt.now _ _ _ c.in-Labelled.is c.deref-in-Labelled.ensures) ∙ c.stmt_names-in-Labelled.ensures.is

pub stmt_names-returns-in-Labelled-clause-counted : goal.stmt_names-returns-in-Labelled-clause-counted
stmt_names-returns-in-Labelled-clause-counted t c =
    let k = ap stmt_count (labelled_is c.args.stmt.now _ _ _ c.in-Labelled.is c.deref-in-Labelled.ensures) in
    IfOk-weaker c.stmt_names-in-Labelled.result _ _ (λ u h. omega arith) c.stmt_names-in-Labelled.ensures.counted

pub stmt_names-expr_names-requires-in-Switch : goal.stmt_names-expr_names-requires-in-Switch
stmt_names-expr_names-requires-in-Switch t c =
    let k = ap stmt_count (switch_is c.args.stmt.now c.in-Switch.subject c.in-Switch.clauses _ c.in-Switch.is refl) in
    let r = c.requires.room in
    record { known = c.requires.known; room = omega arith }

pub stmt_names-returns-in_err-expr_names-in-Switch : goal.stmt_names-returns-in_err-expr_names-in-Switch
stmt_names-returns-in_err-expr_names-in-Switch t c =
    let e : c.from_residual-in_err-expr_names-in-Switch.result ≡ Err c.in_err-expr_names-in-Switch.field-0.0 = search rules in
    record { is = stops _ _ _ c.from_residual-in_err-expr_names-in-Switch.result _ (switch_rows c.args.stmt.now (scope_view c.args.scope.now) c.args.at.now c.in-Switch.subject c.in-Switch.clauses _ _ c.in-Switch.is refl refl) c.in_err-expr_names-in-Switch.ensures.is e; counted = not_ok _ c.from_residual-in_err-expr_names-in-Switch.result _ e }

pub stmt_names-returns-in_ok-expr_names-in-Switch-clause-is : goal.stmt_names-returns-in_ok-expr_names-in-Switch-clause-is
stmt_names-returns-in_ok-expr_names-in-Switch-clause-is t c =
    passes _ _ _ (switch_rows c.args.stmt.now (scope_view c.args.scope.now) c.args.at.now c.in-Switch.subject c.in-Switch.clauses c.as_slice-in-Switch.result.now c.expr_names-in-Switch.new.at c.in-Switch.is c.as_slice-in-Switch.ensures c.in_ok-expr_names-in-Switch.ensures.counted) c.in_ok-expr_names-in-Switch.ensures.is ∙ c.clauses_names.ensures.is

pub stmt_names-returns-in_ok-expr_names-in-Switch-clause-counted : goal.stmt_names-returns-in_ok-expr_names-in-Switch-clause-counted
stmt_names-returns-in_ok-expr_names-in-Switch-clause-counted t c =
    let k = ap stmt_count (switch_is c.args.stmt.now c.in-Switch.subject c.in-Switch.clauses c.as_slice-in-Switch.result.now c.in-Switch.is c.as_slice-in-Switch.ensures) in
    let n = c.in_ok-expr_names-in-Switch.ensures.counted in
    IfOk-weaker c.clauses_names.result _ _ (λ u h. omega arith) c.clauses_names.ensures.counted

-- What the calls require, that there is room for the nodes that are left, and what an expression's pass finds.
use Rattle.std.proofs.Common.{rules, ◌≡◌, ◌+◌, List, Err, ap, ◌∙◌, refl, arith}
use Rattle.std.proofs.lemmas.Result.{IfOk-weaker}
use Rattle.sem_words.specs.Lists.{list_items}
use Rattle.asm_tree.specs.declared.tree.Expr.{Expr}
use Rattle.asm_tree.specs.declared.tree.Link.{Link}
use Rattle.asm_tree.specs.Views.{expr_view, exprs_view, links_view}
use Rattle.asm_tree.proofs.Views.{expr_view-Var}
use Rattle.asm_lang_valid.specs.Rows.{expr_count, exprs_count, links_count}
use Rattle.asm_names.specs.Scopes.{scope_view}
use Rattle.asm_validate_names.proofs.Found.{if_ok, stops, passes, not_ok, exprs_step, links_step, links_after, links_within}
use Rattle.asm_validate_names.proofs.Shapes.{positive, index_is, call_is, table_call_is, assign_is, unary_is, comma_is, store_is, binary_is, chain_is, cond_is}
use Rattle.asm_validate_names.proofs.ExpressionRows.{var_rows, index_rows, call_rows, table_call_rows, assign_rows, store_rows, unary_rows, binary_rows, chain_rows, cond_rows, comma_rows}
use Rattle.asm_validate_names.proofs.expressions.+expressions.Goals as goal

pub expr_names-overflow_add-at : goal.expr_names-overflow_add-at
expr_names-overflow_add-at t c =
    let r = c.requires.room in
    let p = positive (expr_view c.args.expr.now) in
    omega arith

pub expr_names-expr_names-requires : goal.expr_names-expr_names-requires
expr_names-expr_names-requires t c =
    let r = c.requires.room in
    let k = ap expr_count (index_is c.args.expr.now _ _ _ c.in-Index.is c.deref.ensures) in
    let d0 = c.decreases in
    (omega arith, (c.requires.known, omega arith))

pub expr_names-exprs_names-requires : goal.expr_names-exprs_names-requires
expr_names-exprs_names-requires t c =
    let r = c.requires.room in
    let k = ap expr_count (call_is c.args.expr.now _ _ _ c.in-Call.is c.as_slice.ensures) in
    let d0 = c.decreases in
    (omega arith, (c.requires.known, omega arith))

pub expr_names-expr_names-requires-in-TableCall : goal.expr_names-expr_names-requires-in-TableCall
expr_names-expr_names-requires-in-TableCall t c =
    let r = c.requires.room in
    let k = ap expr_count (table_call_is c.args.expr.now _ _ _ c.in-TableCall.index.value (list_items c.in-TableCall.arguments) c.in-TableCall.is refl refl) in
    let d = ap (λ (x : Expr). expr_count (expr_view x)) c.deref-in-TableCall.ensures in
    let d0 = c.decreases in
    (omega arith, (c.requires.known, omega arith))

pub expr_names-exprs_names-requires-in-TableCall : goal.expr_names-exprs_names-requires-in-TableCall
expr_names-exprs_names-requires-in-TableCall t c =
    let r = c.requires.room in
    let k = ap expr_count (table_call_is c.args.expr.now _ _ _ c.in-TableCall.index.value (list_items c.in-TableCall.arguments) c.in-TableCall.is refl refl) in
    let d = ap (λ (x : Expr). expr_count (expr_view x)) c.deref-in-TableCall.ensures in
    let l = ap (λ (x : List Expr). exprs_count (exprs_view x)) c.as_slice-in-TableCall.ensures in
    let n = c.in_ok-expr_names-in-TableCall.ensures.counted in
    let d0 = c.decreases in
    (omega arith, (c.requires.known, omega arith))

pub expr_names-expr_names-requires-in-Assign : goal.expr_names-expr_names-requires-in-Assign
expr_names-expr_names-requires-in-Assign t c =
    let r = c.requires.room in
    let k = ap expr_count (assign_is c.args.expr.now _ _ _ c.in-Assign.is c.deref-in-Assign.ensures) in
    let d0 = c.decreases in
    (omega arith, (c.requires.known, omega arith))

pub expr_names-expr_names-requires-in-Store : goal.expr_names-expr_names-requires-in-Store
expr_names-expr_names-requires-in-Store t c =
    let r = c.requires.room in
    let k = ap expr_count (store_is c.args.expr.now _ _ _ c.in-Store.is) in
    let d = ap (λ (x : Expr). expr_count (expr_view x)) c.deref-in-Store.ensures in
    let d0 = c.decreases in
    (omega arith, (c.requires.known, omega arith))

pub expr_names-expr_names-requires-in-Store-2 : goal.expr_names-expr_names-requires-in-Store-2
expr_names-expr_names-requires-in-Store-2 t c =
    let r = c.requires.room in
    let k = ap expr_count (store_is c.args.expr.now _ _ _ c.in-Store.is) in
    let d = ap (λ (x : Expr). expr_count (expr_view x)) c.deref-in-Store.ensures in
    let f = ap (λ (x : Expr). expr_count (expr_view x)) c.deref-in-Store-2.ensures in
    let n = c.in_ok-expr_names-in-Store.ensures.counted in
    let d0 = c.decreases in
    (omega arith, (c.requires.known, omega arith))

pub expr_names-expr_names-requires-in-Unary : goal.expr_names-expr_names-requires-in-Unary
expr_names-expr_names-requires-in-Unary t c =
    let r = c.requires.room in
    let k = ap expr_count (unary_is c.args.expr.now _ _ _ c.in-Unary.is c.deref-in-Unary.ensures) in
    let d0 = c.decreases in
    (omega arith, (c.requires.known, omega arith))

pub expr_names-expr_names-requires-in-Binary : goal.expr_names-expr_names-requires-in-Binary
expr_names-expr_names-requires-in-Binary t c =
    let r = c.requires.room in
    let k = ap expr_count (binary_is c.args.expr.now _ _ _ c.in-Binary.is) in
    let d = ap (λ (x : Expr). expr_count (expr_view x)) c.deref-in-Binary.ensures in
    let d0 = c.decreases in
    (omega arith, (c.requires.known, omega arith))

pub expr_names-expr_names-requires-in-Binary-2 : goal.expr_names-expr_names-requires-in-Binary-2
expr_names-expr_names-requires-in-Binary-2 t c =
    let r = c.requires.room in
    let k = ap expr_count (binary_is c.args.expr.now _ _ _ c.in-Binary.is) in
    let d = ap (λ (x : Expr). expr_count (expr_view x)) c.deref-in-Binary.ensures in
    let f = ap (λ (x : Expr). expr_count (expr_view x)) c.deref-in-Binary-2.ensures in
    let n = c.in_ok-expr_names-in-Binary.ensures.counted in
    let d0 = c.decreases in
    (omega arith, (c.requires.known, omega arith))

pub expr_names-expr_names-requires-in-Chain : goal.expr_names-expr_names-requires-in-Chain
expr_names-expr_names-requires-in-Chain t c =
    let r = c.requires.room in
    let k = ap expr_count (chain_is c.args.expr.now _ _ c.in-Chain.is) in
    let d = ap (λ (x : Expr). expr_count (expr_view x)) c.deref-in-Chain.ensures in
    let d0 = c.decreases in
    (omega arith, (c.requires.known, omega arith))

pub expr_names-links_names-requires : goal.expr_names-links_names-requires
expr_names-links_names-requires t c =
    let r = c.requires.room in
    let k = ap expr_count (chain_is c.args.expr.now _ _ c.in-Chain.is) in
    let d = ap (λ (x : Expr). expr_count (expr_view x)) c.deref-in-Chain.ensures in
    let l = ap (λ (x : List Link). links_count (links_view x)) c.as_slice-in-Chain.ensures in
    let n = c.in_ok-expr_names-in-Chain.ensures.counted in
    let d0 = c.decreases in
    (omega arith, (c.requires.known, omega arith))

pub expr_names-expr_names-requires-in-Cond : goal.expr_names-expr_names-requires-in-Cond
expr_names-expr_names-requires-in-Cond t c =
    let r = c.requires.room in
    let k = ap expr_count (cond_is c.args.expr.now _ _ _ c.in-Cond.is) in
    let d = ap (λ (x : Expr). expr_count (expr_view x)) c.deref-in-Cond.ensures in
    let d0 = c.decreases in
    (omega arith, (c.requires.known, omega arith))

pub expr_names-expr_names-requires-in-Cond-2 : goal.expr_names-expr_names-requires-in-Cond-2
expr_names-expr_names-requires-in-Cond-2 t c =
    let r = c.requires.room in
    let k = ap expr_count (cond_is c.args.expr.now _ _ _ c.in-Cond.is) in
    let d = ap (λ (x : Expr). expr_count (expr_view x)) c.deref-in-Cond.ensures in
    let f = ap (λ (x : Expr). expr_count (expr_view x)) c.deref-in-Cond-2.ensures in
    let n = c.in_ok-expr_names-in-Cond.ensures.counted in
    let d0 = c.decreases in
    (omega arith, (c.requires.known, omega arith))

pub expr_names-expr_names-requires-in-Cond-3 : goal.expr_names-expr_names-requires-in-Cond-3
expr_names-expr_names-requires-in-Cond-3 t c =
    let r = c.requires.room in
    let k = ap expr_count (cond_is c.args.expr.now _ _ _ c.in-Cond.is) in
    let d = ap (λ (x : Expr). expr_count (expr_view x)) c.deref-in-Cond.ensures in
    let f = ap (λ (x : Expr). expr_count (expr_view x)) c.deref-in-Cond-2.ensures in
    let g = ap (λ (x : Expr). expr_count (expr_view x)) c.deref-in-Cond-3.ensures in
    let n = c.in_ok-expr_names-in-Cond.ensures.counted in
    let m = c.in_ok-expr_names-in-Cond-2.ensures.counted in
    let d0 = c.decreases in
    (omega arith, (c.requires.known, omega arith))

pub expr_names-exprs_names-requires-in-Comma : goal.expr_names-exprs_names-requires-in-Comma
expr_names-exprs_names-requires-in-Comma t c =
    let r = c.requires.room in
    let k = ap expr_count (comma_is c.args.expr.now _ _ c.in-Comma.is c.as_slice-in-Comma.ensures) in
    let d0 = c.decreases in
    (omega arith, (c.requires.known, omega arith))

pub expr_names-returns-in-Var-clause-is : goal.expr_names-returns-in-Var-clause-is
expr_names-returns-in-Var-clause-is t c =
    var_rows c.args.expr.now (scope_view c.args.scope.now) c.args.at.now _ c.in-Var.is ∙ c.use_variable.ensures

pub expr_names-returns-in-Var-clause-counted : goal.expr_names-returns-in-Var-clause-counted
expr_names-returns-in-Var-clause-counted t c =
    let k = ap (λ x. expr_count (expr_view x)) c.in-Var.is ∙ ap expr_count (expr_view-Var c.in-Var.name) in
    let all : c.args.at.now + 1 ≡ c.args.at.now + expr_count (expr_view c.args.expr.now) = omega arith in
    if_ok _ all

pub expr_names-returns-in_err-expr_names-in-Index : goal.expr_names-returns-in_err-expr_names-in-Index
expr_names-returns-in_err-expr_names-in-Index t c =
    let e : c.from_residual.result ≡ Err c.in_err-expr_names-in-Index.field-0.0 = search rules in
    record { is = stops _ _ _ c.from_residual.result _ (index_rows c.args.expr.now (scope_view c.args.scope.now) c.args.at.now c.in-Index.name c.in-Index.index c.deref.result.now c.in-Index.is c.deref.ensures) c.in_err-expr_names-in-Index.ensures.is e; counted = not_ok _ c.from_residual.result _ e }

pub expr_names-returns-in_ok-expr_names-in-Index-clause-is : goal.expr_names-returns-in_ok-expr_names-in-Index-clause-is
expr_names-returns-in_ok-expr_names-in-Index-clause-is t c =
    passes _ _ _ (index_rows c.args.expr.now (scope_view c.args.scope.now) c.args.at.now c.in-Index.name c.in-Index.index c.deref.result.now c.in-Index.is c.deref.ensures) c.in_ok-expr_names-in-Index.ensures.is ∙ c.use_view.ensures

pub expr_names-returns-in_ok-expr_names-in-Index-clause-counted : goal.expr_names-returns-in_ok-expr_names-in-Index-clause-counted
expr_names-returns-in_ok-expr_names-in-Index-clause-counted t c =
    let k = ap expr_count (index_is c.args.expr.now _ _ _ c.in-Index.is c.deref.ensures) in
    let n = c.in_ok-expr_names-in-Index.ensures.counted in
    let all : c.expr_names.new.at ≡ c.args.at.now + expr_count (expr_view c.args.expr.now) = omega arith in
    if_ok _ all

pub expr_names-returns-in_err-exprs_names-in-Call : goal.expr_names-returns-in_err-exprs_names-in-Call
expr_names-returns-in_err-exprs_names-in-Call t c =
    let e : c.from_residual-in_err-exprs_names-in-Call.result ≡ Err c.in_err-exprs_names-in-Call.field-0.0 = search rules in
    record { is = stops _ _ _ c.from_residual-in_err-exprs_names-in-Call.result _ (call_rows c.args.expr.now (scope_view c.args.scope.now) c.args.at.now c.in-Call.name c.in-Call.arguments c.as_slice.result.now c.in-Call.is c.as_slice.ensures) c.in_err-exprs_names-in-Call.ensures.is e; counted = not_ok _ c.from_residual-in_err-exprs_names-in-Call.result _ e }

pub expr_names-returns-in_ok-exprs_names-in-Call-clause-is : goal.expr_names-returns-in_ok-exprs_names-in-Call-clause-is
expr_names-returns-in_ok-exprs_names-in-Call-clause-is t c =
    passes _ _ _ (call_rows c.args.expr.now (scope_view c.args.scope.now) c.args.at.now c.in-Call.name c.in-Call.arguments c.as_slice.result.now c.in-Call.is c.as_slice.ensures) c.in_ok-exprs_names-in-Call.ensures.is ∙ c.use_callee.ensures

pub expr_names-returns-in_ok-exprs_names-in-Call-clause-counted : goal.expr_names-returns-in_ok-exprs_names-in-Call-clause-counted
expr_names-returns-in_ok-exprs_names-in-Call-clause-counted t c =
    let k = ap expr_count (call_is c.args.expr.now _ _ _ c.in-Call.is c.as_slice.ensures) in
    let n = c.in_ok-exprs_names-in-Call.ensures.counted in
    let all : c.exprs_names.new.at ≡ c.args.at.now + expr_count (expr_view c.args.expr.now) = omega arith in
    if_ok _ all

pub expr_names-returns-in_err-expr_names-in-TableCall : goal.expr_names-returns-in_err-expr_names-in-TableCall
expr_names-returns-in_err-expr_names-in-TableCall t c =
    let e : c.from_residual-in_err-expr_names-in-TableCall.result ≡ Err c.in_err-expr_names-in-TableCall.field-0.0 = search rules in
    record { is = stops _ _ _ c.from_residual-in_err-expr_names-in-TableCall.result _ (table_call_rows c.args.expr.now (scope_view c.args.scope.now) c.args.at.now c.in-TableCall.name c.in-TableCall.index c.in-TableCall.arguments c.deref-in-TableCall.result.now _ _ c.in-TableCall.is c.deref-in-TableCall.ensures refl refl) c.in_err-expr_names-in-TableCall.ensures.is e; counted = not_ok _ c.from_residual-in_err-expr_names-in-TableCall.result _ e }

pub expr_names-returns-in_err-exprs_names-in-TableCall : goal.expr_names-returns-in_err-exprs_names-in-TableCall
expr_names-returns-in_err-exprs_names-in-TableCall t c =
    let e : c.from_residual-in_err-exprs_names-in-TableCall.result ≡ Err c.in_err-exprs_names-in-TableCall.field-0.0 = search rules in
    record { is = stops _ _ _ c.from_residual-in_err-exprs_names-in-TableCall.result _ (passes _ _ _ (table_call_rows c.args.expr.now (scope_view c.args.scope.now) c.args.at.now c.in-TableCall.name c.in-TableCall.index c.in-TableCall.arguments c.deref-in-TableCall.result.now c.as_slice-in-TableCall.result.now c.expr_names-in-TableCall.new.at c.in-TableCall.is c.deref-in-TableCall.ensures c.as_slice-in-TableCall.ensures c.in_ok-expr_names-in-TableCall.ensures.counted) c.in_ok-expr_names-in-TableCall.ensures.is) c.in_err-exprs_names-in-TableCall.ensures.is e; counted = not_ok _ c.from_residual-in_err-exprs_names-in-TableCall.result _ e }

pub expr_names-returns-in_ok-exprs_names-in-TableCall-clause-is : goal.expr_names-returns-in_ok-exprs_names-in-TableCall-clause-is
expr_names-returns-in_ok-exprs_names-in-TableCall-clause-is t c =
    passes _ _ _ (passes _ _ _ (table_call_rows c.args.expr.now (scope_view c.args.scope.now) c.args.at.now c.in-TableCall.name c.in-TableCall.index c.in-TableCall.arguments c.deref-in-TableCall.result.now c.as_slice-in-TableCall.result.now c.expr_names-in-TableCall.new.at c.in-TableCall.is c.deref-in-TableCall.ensures c.as_slice-in-TableCall.ensures c.in_ok-expr_names-in-TableCall.ensures.counted) c.in_ok-expr_names-in-TableCall.ensures.is) c.in_ok-exprs_names-in-TableCall.ensures.is ∙ c.use_table.ensures

pub expr_names-returns-in_ok-exprs_names-in-TableCall-clause-counted : goal.expr_names-returns-in_ok-exprs_names-in-TableCall-clause-counted
expr_names-returns-in_ok-exprs_names-in-TableCall-clause-counted t c =
    let k = ap expr_count (table_call_is c.args.expr.now _ _ _ _ _ c.in-TableCall.is c.deref-in-TableCall.ensures c.as_slice-in-TableCall.ensures) in
    let n = c.in_ok-expr_names-in-TableCall.ensures.counted in
    let m = c.in_ok-exprs_names-in-TableCall.ensures.counted in
    let all : c.exprs_names-in-TableCall.new.at ≡ c.args.at.now + expr_count (expr_view c.args.expr.now) = omega arith in
    if_ok _ all

pub expr_names-returns-in_err-expr_names-in-Assign : goal.expr_names-returns-in_err-expr_names-in-Assign
expr_names-returns-in_err-expr_names-in-Assign t c =
    let e : c.from_residual-in_err-expr_names-in-Assign.result ≡ Err c.in_err-expr_names-in-Assign.field-0.0 = search rules in
    record { is = stops _ _ _ c.from_residual-in_err-expr_names-in-Assign.result _ (assign_rows c.args.expr.now (scope_view c.args.scope.now) c.args.at.now c.in-Assign.name c.in-Assign.value c.deref-in-Assign.result.now c.in-Assign.is c.deref-in-Assign.ensures) c.in_err-expr_names-in-Assign.ensures.is e; counted = not_ok _ c.from_residual-in_err-expr_names-in-Assign.result _ e }

pub expr_names-returns-in_ok-expr_names-in-Assign-clause-is : goal.expr_names-returns-in_ok-expr_names-in-Assign-clause-is
expr_names-returns-in_ok-expr_names-in-Assign-clause-is t c =
    passes _ _ _ (assign_rows c.args.expr.now (scope_view c.args.scope.now) c.args.at.now c.in-Assign.name c.in-Assign.value c.deref-in-Assign.result.now c.in-Assign.is c.deref-in-Assign.ensures) c.in_ok-expr_names-in-Assign.ensures.is ∙ c.use_variable-in-Assign.ensures

pub expr_names-returns-in_ok-expr_names-in-Assign-clause-counted : goal.expr_names-returns-in_ok-expr_names-in-Assign-clause-counted
expr_names-returns-in_ok-expr_names-in-Assign-clause-counted t c =
    let k = ap expr_count (assign_is c.args.expr.now _ _ _ c.in-Assign.is c.deref-in-Assign.ensures) in
    let n = c.in_ok-expr_names-in-Assign.ensures.counted in
    let all : c.expr_names-in-Assign.new.at ≡ c.args.at.now + expr_count (expr_view c.args.expr.now) = omega arith in
    if_ok _ all

pub expr_names-returns-in_err-expr_names-in-Store : goal.expr_names-returns-in_err-expr_names-in-Store
expr_names-returns-in_err-expr_names-in-Store t c =
    let e : c.from_residual-in_err-expr_names-in-Store.result ≡ Err c.in_err-expr_names-in-Store.field-0.0 = search rules in
    record { is = stops _ _ _ c.from_residual-in_err-expr_names-in-Store.result _ (store_rows c.args.expr.now (scope_view c.args.scope.now) c.args.at.now c.in-Store.name c.in-Store.index c.in-Store.value c.deref-in-Store.result.now _ _ c.in-Store.is c.deref-in-Store.ensures refl refl) c.in_err-expr_names-in-Store.ensures.is e; counted = not_ok _ c.from_residual-in_err-expr_names-in-Store.result _ e }

pub expr_names-returns-in_err-expr_names-in-Store-2 : goal.expr_names-returns-in_err-expr_names-in-Store-2
expr_names-returns-in_err-expr_names-in-Store-2 t c =
    let e : c.from_residual-in_err-expr_names-in-Store-2.result ≡ Err c.in_err-expr_names-in-Store-2.field-0.0 = search rules in
    record { is = stops _ _ _ c.from_residual-in_err-expr_names-in-Store-2.result _ (passes _ _ _ (store_rows c.args.expr.now (scope_view c.args.scope.now) c.args.at.now c.in-Store.name c.in-Store.index c.in-Store.value c.deref-in-Store.result.now c.deref-in-Store-2.result.now c.expr_names-in-Store.new.at c.in-Store.is c.deref-in-Store.ensures c.deref-in-Store-2.ensures c.in_ok-expr_names-in-Store.ensures.counted) c.in_ok-expr_names-in-Store.ensures.is) c.in_err-expr_names-in-Store-2.ensures.is e; counted = not_ok _ c.from_residual-in_err-expr_names-in-Store-2.result _ e }

pub expr_names-returns-in_ok-expr_names-in-Store-2-clause-is : goal.expr_names-returns-in_ok-expr_names-in-Store-2-clause-is
expr_names-returns-in_ok-expr_names-in-Store-2-clause-is t c =
    passes _ _ _ (passes _ _ _ (store_rows c.args.expr.now (scope_view c.args.scope.now) c.args.at.now c.in-Store.name c.in-Store.index c.in-Store.value c.deref-in-Store.result.now c.deref-in-Store-2.result.now c.expr_names-in-Store.new.at c.in-Store.is c.deref-in-Store.ensures c.deref-in-Store-2.ensures c.in_ok-expr_names-in-Store.ensures.counted) c.in_ok-expr_names-in-Store.ensures.is) c.in_ok-expr_names-in-Store-2.ensures.is ∙ c.use_view-in-Store.ensures

pub expr_names-returns-in_ok-expr_names-in-Store-2-clause-counted : goal.expr_names-returns-in_ok-expr_names-in-Store-2-clause-counted
expr_names-returns-in_ok-expr_names-in-Store-2-clause-counted t c =
    let k = ap expr_count (store_is c.args.expr.now _ _ _ c.in-Store.is) in
    let d = ap (λ (x : Expr). expr_count (expr_view x)) c.deref-in-Store.ensures in
    let f = ap (λ (x : Expr). expr_count (expr_view x)) c.deref-in-Store-2.ensures in
    let n = c.in_ok-expr_names-in-Store.ensures.counted in
    let m = c.in_ok-expr_names-in-Store-2.ensures.counted in
    let all : c.expr_names-in-Store-2.new.at ≡ c.args.at.now + expr_count (expr_view c.args.expr.now) = omega arith in
    if_ok _ all

pub expr_names-returns-in-Unary-clause-is : goal.expr_names-returns-in-Unary-clause-is
expr_names-returns-in-Unary-clause-is t c =
    unary_rows c.args.expr.now (scope_view c.args.scope.now) c.args.at.now _ _ _ c.in-Unary.is c.deref-in-Unary.ensures ∙ c.expr_names-in-Unary.ensures.is

pub expr_names-returns-in-Unary-clause-counted : goal.expr_names-returns-in-Unary-clause-counted
expr_names-returns-in-Unary-clause-counted t c =
    let k = ap expr_count (unary_is c.args.expr.now _ _ _ c.in-Unary.is c.deref-in-Unary.ensures) in
    IfOk-weaker c.expr_names-in-Unary.result _ _ (λ u h. omega arith) c.expr_names-in-Unary.ensures.counted

pub expr_names-returns-in_err-expr_names-in-Binary : goal.expr_names-returns-in_err-expr_names-in-Binary
expr_names-returns-in_err-expr_names-in-Binary t c =
    let e : c.from_residual-in_err-expr_names-in-Binary.result ≡ Err c.in_err-expr_names-in-Binary.field-0.0 = search rules in
    record { is = stops _ _ _ c.from_residual-in_err-expr_names-in-Binary.result _ (binary_rows c.args.expr.now (scope_view c.args.scope.now) c.args.at.now _ c.in-Binary.left c.in-Binary.right c.deref-in-Binary.result.now _ _ c.in-Binary.is c.deref-in-Binary.ensures refl refl) c.in_err-expr_names-in-Binary.ensures.is e; counted = not_ok _ c.from_residual-in_err-expr_names-in-Binary.result _ e }

pub expr_names-returns-in_ok-expr_names-in-Binary-clause-is : goal.expr_names-returns-in_ok-expr_names-in-Binary-clause-is
expr_names-returns-in_ok-expr_names-in-Binary-clause-is t c =
    passes _ _ _ (binary_rows c.args.expr.now (scope_view c.args.scope.now) c.args.at.now _ c.in-Binary.left c.in-Binary.right c.deref-in-Binary.result.now c.deref-in-Binary-2.result.now c.expr_names-in-Binary.new.at c.in-Binary.is c.deref-in-Binary.ensures c.deref-in-Binary-2.ensures c.in_ok-expr_names-in-Binary.ensures.counted) c.in_ok-expr_names-in-Binary.ensures.is ∙ c.expr_names-in-Binary-2.ensures.is

pub expr_names-returns-in_ok-expr_names-in-Binary-clause-counted : goal.expr_names-returns-in_ok-expr_names-in-Binary-clause-counted
expr_names-returns-in_ok-expr_names-in-Binary-clause-counted t c =
    let k = ap expr_count (binary_is c.args.expr.now _ _ _ c.in-Binary.is) in
    let d = ap (λ (x : Expr). expr_count (expr_view x)) c.deref-in-Binary.ensures in
    let f = ap (λ (x : Expr). expr_count (expr_view x)) c.deref-in-Binary-2.ensures in
    let n = c.in_ok-expr_names-in-Binary.ensures.counted in
    IfOk-weaker c.expr_names-in-Binary-2.result _ _ (λ u h. omega arith) c.expr_names-in-Binary-2.ensures.counted

pub expr_names-returns-in_err-expr_names-in-Chain : goal.expr_names-returns-in_err-expr_names-in-Chain
expr_names-returns-in_err-expr_names-in-Chain t c =
    let e : c.from_residual-in_err-expr_names-in-Chain.result ≡ Err c.in_err-expr_names-in-Chain.field-0.0 = search rules in
    record { is = stops _ _ _ c.from_residual-in_err-expr_names-in-Chain.result _ (chain_rows c.args.expr.now (scope_view c.args.scope.now) c.args.at.now c.in-Chain.first c.in-Chain.links c.deref-in-Chain.result.now _ _ c.in-Chain.is c.deref-in-Chain.ensures refl refl) c.in_err-expr_names-in-Chain.ensures.is e; counted = not_ok _ c.from_residual-in_err-expr_names-in-Chain.result _ e }

pub expr_names-returns-in_ok-expr_names-in-Chain-clause-is : goal.expr_names-returns-in_ok-expr_names-in-Chain-clause-is
expr_names-returns-in_ok-expr_names-in-Chain-clause-is t c =
    passes _ _ _ (chain_rows c.args.expr.now (scope_view c.args.scope.now) c.args.at.now c.in-Chain.first c.in-Chain.links c.deref-in-Chain.result.now c.as_slice-in-Chain.result.now c.expr_names-in-Chain.new.at c.in-Chain.is c.deref-in-Chain.ensures c.as_slice-in-Chain.ensures c.in_ok-expr_names-in-Chain.ensures.counted) c.in_ok-expr_names-in-Chain.ensures.is ∙ c.links_names.ensures.is

pub expr_names-returns-in_ok-expr_names-in-Chain-clause-counted : goal.expr_names-returns-in_ok-expr_names-in-Chain-clause-counted
expr_names-returns-in_ok-expr_names-in-Chain-clause-counted t c =
    let k = ap expr_count (chain_is c.args.expr.now _ _ c.in-Chain.is) in
    let d = ap (λ (x : Expr). expr_count (expr_view x)) c.deref-in-Chain.ensures in
    let l = ap (λ (x : List Link). links_count (links_view x)) c.as_slice-in-Chain.ensures in
    let n = c.in_ok-expr_names-in-Chain.ensures.counted in
    IfOk-weaker c.links_names.result _ _ (λ u h. omega arith) c.links_names.ensures.counted

pub expr_names-returns-in_err-expr_names-in-Cond : goal.expr_names-returns-in_err-expr_names-in-Cond
expr_names-returns-in_err-expr_names-in-Cond t c =
    let e : c.from_residual-in_err-expr_names-in-Cond.result ≡ Err c.in_err-expr_names-in-Cond.field-0.0 = search rules in
    record { is = stops _ _ _ c.from_residual-in_err-expr_names-in-Cond.result _ (cond_rows c.args.expr.now (scope_view c.args.scope.now) c.args.at.now c.in-Cond.condition c.in-Cond.yes c.in-Cond.no c.deref-in-Cond.result.now _ _ _ _ c.in-Cond.is c.deref-in-Cond.ensures refl refl refl refl) c.in_err-expr_names-in-Cond.ensures.is e; counted = not_ok _ c.from_residual-in_err-expr_names-in-Cond.result _ e }

pub expr_names-returns-in_err-expr_names-in-Cond-2 : goal.expr_names-returns-in_err-expr_names-in-Cond-2
expr_names-returns-in_err-expr_names-in-Cond-2 t c =
    let e : c.from_residual-in_err-expr_names-in-Cond-2.result ≡ Err c.in_err-expr_names-in-Cond-2.field-0.0 = search rules in
    record { is = stops _ _ _ c.from_residual-in_err-expr_names-in-Cond-2.result _ (passes _ _ _ (cond_rows c.args.expr.now (scope_view c.args.scope.now) c.args.at.now c.in-Cond.condition c.in-Cond.yes c.in-Cond.no c.deref-in-Cond.result.now c.deref-in-Cond-2.result.now _ c.expr_names-in-Cond.new.at _ c.in-Cond.is c.deref-in-Cond.ensures c.deref-in-Cond-2.ensures refl c.in_ok-expr_names-in-Cond.ensures.counted refl) c.in_ok-expr_names-in-Cond.ensures.is) c.in_err-expr_names-in-Cond-2.ensures.is e; counted = not_ok _ c.from_residual-in_err-expr_names-in-Cond-2.result _ e }

pub expr_names-returns-in_ok-expr_names-in-Cond-2-clause-is : goal.expr_names-returns-in_ok-expr_names-in-Cond-2-clause-is
expr_names-returns-in_ok-expr_names-in-Cond-2-clause-is t c =
    passes _ _ _ (passes _ _ _ (cond_rows c.args.expr.now (scope_view c.args.scope.now) c.args.at.now c.in-Cond.condition c.in-Cond.yes c.in-Cond.no c.deref-in-Cond.result.now c.deref-in-Cond-2.result.now c.deref-in-Cond-3.result.now c.expr_names-in-Cond.new.at c.expr_names-in-Cond-2.new.at c.in-Cond.is c.deref-in-Cond.ensures c.deref-in-Cond-2.ensures c.deref-in-Cond-3.ensures c.in_ok-expr_names-in-Cond.ensures.counted c.in_ok-expr_names-in-Cond-2.ensures.counted) c.in_ok-expr_names-in-Cond.ensures.is) c.in_ok-expr_names-in-Cond-2.ensures.is ∙ c.expr_names-in-Cond-3.ensures.is

pub expr_names-returns-in_ok-expr_names-in-Cond-2-clause-counted : goal.expr_names-returns-in_ok-expr_names-in-Cond-2-clause-counted
expr_names-returns-in_ok-expr_names-in-Cond-2-clause-counted t c =
    let k = ap expr_count (cond_is c.args.expr.now _ _ _ c.in-Cond.is) in
    let d = ap (λ (x : Expr). expr_count (expr_view x)) c.deref-in-Cond.ensures in
    let f = ap (λ (x : Expr). expr_count (expr_view x)) c.deref-in-Cond-2.ensures in
    let g = ap (λ (x : Expr). expr_count (expr_view x)) c.deref-in-Cond-3.ensures in
    let n = c.in_ok-expr_names-in-Cond.ensures.counted in
    let m = c.in_ok-expr_names-in-Cond-2.ensures.counted in
    IfOk-weaker c.expr_names-in-Cond-3.result _ _ (λ u h. omega arith) c.expr_names-in-Cond-3.ensures.counted

pub expr_names-returns-in-Comma-clause-is : goal.expr_names-returns-in-Comma-clause-is
expr_names-returns-in-Comma-clause-is t c =
    comma_rows c.args.expr.now (scope_view c.args.scope.now) c.args.at.now _ _ c.in-Comma.is c.as_slice-in-Comma.ensures ∙ c.exprs_names-in-Comma.ensures.is

pub expr_names-returns-in-Comma-clause-counted : goal.expr_names-returns-in-Comma-clause-counted
expr_names-returns-in-Comma-clause-counted t c =
    let k = ap expr_count (comma_is c.args.expr.now _ _ c.in-Comma.is c.as_slice-in-Comma.ensures) in
    IfOk-weaker c.exprs_names-in-Comma.result _ _ (λ u h. omega arith) c.exprs_names-in-Comma.ensures.counted

pub exprs_names-expr_names-requires : goal.exprs_names-expr_names-requires
exprs_names-expr_names-requires t c =
    let k = exprs_step c.args.exprs.now c.loop-expr.expr-index c.expr-item.result c.loop-expr-test.true c.expr-item.is in
    let left = c.loop-expr.invariant.left in
    let counted = c.loop-expr.invariant.counted in
    let r = c.requires.room in
    let d0 = c.decreases in
    (omega arith, (c.requires.known, omega arith))

pub links_names-expr_names-requires : goal.links_names-expr_names-requires
links_names-expr_names-requires t c =
    let k = links_step c.args.links.now c.loop-link.link-index c.link-item.result c.loop-link-test.true c.link-item.is in
    let left = c.loop-link.invariant.left in
    let counted = c.loop-link.invariant.counted in
    let r = c.requires.room in
    let d0 = c.decreases in
    (omega arith, (c.requires.known, omega arith))

pub links_names-returns-in_err-expr_names-clause-is : goal.links_names-returns-in_err-expr_names-clause-is
links_names-returns-in_err-expr_names-clause-is t c =
    c.loop-link.invariant.rest
    ∙ links_within _ c.args.links.now c.loop-link.link-index c.link-item.result _ _ c.loop-link-test.true c.link-item.is c.in_err-expr_names.ensures.is
    ∙ search rules

pub links_names-loop-link-preserved : goal.links_names-loop-link-preserved
links_names-loop-link-preserved t c =
    let k = links_step c.args.links.now c.loop-link.link-index c.link-item.result c.loop-link-test.true c.link-item.is in
    let left = c.loop-link.invariant.left in
    let counted = c.loop-link.invariant.counted in
    let n = c.in_ok-expr_names.ensures.counted in
    record {
      rest = c.loop-link.invariant.rest ∙ links_after _ c.args.links.now c.loop-link.link-index c.link-item.result _ _ c.loop-link-test.true c.link-item.is c.in_ok-expr_names.ensures.is n;
      left = omega arith;
      counted = omega arith;
    }

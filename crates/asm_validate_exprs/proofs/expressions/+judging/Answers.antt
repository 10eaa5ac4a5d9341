-- What the calls require, and the steps of the loops.
use mir.Syntax.{w128}
use Rattle.std.proofs.lemmas.Int.{to_z-of_z}
use Rattle.std.proofs.Common.{FitsSigned, rules, ◌≡◌, ◌+◌, ◌-◌, ◌<◌, length, List, ap, sym, ◌∙◌, refl, arith}
use Rattle.sem_words.specs.Lists.{list_items, text_bytes}
use Rattle.asm_tree.specs.declared.tree.Expr.{Expr}
use Rattle.asm_tree.specs.declared.tree.Link.{Link}
use Rattle.asm_tree.specs.Views.{expr_view, exprs_view, links_view}
use Rattle.asm_types.specs.declared.value_type.ValueType.TheVariants.{Int, Extern}
use Rattle.asm_tree.proofs.Views.{expr_view-Lit}
use Rattle.asm_lang_valid.specs.Rows.{first, expr_count, links_count}
use Rattle.asm_lang_valid.specs.Typing.{last_type, literal_type}
use Rattle.asm_lang_valid.specs.TypeRows as rows
use Rattle.asm_names.specs.Meanings.{meaning_view}
use Rattle.asm_names.specs.Scopes.{scope_view}
use Rattle.asm_validate_names.proofs.Found.{first_after, first_before, exprs_step, links_step}
use Rattle.asm_validate_exprs.proofs.Steps.{if_ok, lengths, link_lengths, below_step, exprs_after, exprs_within, links_after, links_within, fit_step, comma_after, comma_within, comma_type, last_at, lit_typed, binary_rows, chain_end, chain_typed, cond_second, table_row, table_call_fits}
use Rattle.asm_validate_names.proofs.Shapes.{positive, index_is, call_is, table_call_is, assign_is, unary_is, comma_is, store_is, binary_is, chain_is, cond_is}
use Rattle.asm_validate_exprs.proofs.expressions.+judging.Goals as goal

pub judge-overflow_add-at : goal.judge-overflow_add-at
judge-overflow_add-at t c =
    let r = c.requires.room in
    let p = positive (expr_view c.args.expr.now) in
    omega arith

pub judge-judge-requires : goal.judge-judge-requires
judge-judge-requires t c =
    let r = c.requires.room in
    let k = ap expr_count (index_is c.args.expr.now _ _ _ c.in-Index.is c.deref.ensures) in
    let d0 = c.decreases in
    (omega arith, (c.requires.known, omega arith))

pub judge-judge_all-requires : goal.judge-judge_all-requires
judge-judge_all-requires t c =
    let r = c.requires.room in
    let k = ap expr_count (call_is c.args.expr.now _ _ _ c.in-Call.is c.as_slice.ensures) in
    let d0 = c.decreases in
    (omega arith, (c.requires.known, omega arith))

pub judge-judge-requires-in-TableCall : goal.judge-judge-requires-in-TableCall
judge-judge-requires-in-TableCall t c =
    let r = c.requires.room in
    let k = ap expr_count (table_call_is c.args.expr.now _ _ _ c.in-TableCall.index.value (list_items c.in-TableCall.arguments) c.in-TableCall.is refl refl) in
    let d = ap (λ (x : Expr). expr_count (expr_view x)) c.deref-in-TableCall.ensures in
    let d0 = c.decreases in
    (omega arith, (c.requires.known, omega arith))

pub judge-judge_all-requires-in-TableCall : goal.judge-judge_all-requires-in-TableCall
judge-judge_all-requires-in-TableCall t c =
    let r = c.requires.room in
    let k = ap expr_count (table_call_is c.args.expr.now _ _ _ _ _ c.in-TableCall.is c.deref-in-TableCall.ensures c.as_slice-in-TableCall.ensures) in
    let n = c.in_ok-judge-in-TableCall.ensures.counted in
    let d0 = c.decreases in
    (omega arith, (c.requires.known, omega arith))

pub judge-judge-requires-in-Assign : goal.judge-judge-requires-in-Assign
judge-judge-requires-in-Assign t c =
    let r = c.requires.room in
    let k = ap expr_count (assign_is c.args.expr.now _ _ _ c.in-Assign.is c.deref-in-Assign.ensures) in
    let d0 = c.decreases in
    (omega arith, (c.requires.known, omega arith))

pub judge-judge-requires-in-Unary : goal.judge-judge-requires-in-Unary
judge-judge-requires-in-Unary t c =
    let r = c.requires.room in
    let k = ap expr_count (unary_is c.args.expr.now _ _ _ c.in-Unary.is c.deref-in-Unary.ensures) in
    let d0 = c.decreases in
    (omega arith, (c.requires.known, omega arith))

pub judge-judge_store-requires : goal.judge-judge_store-requires
judge-judge_store-requires t c =
    let r = c.requires.room in
    let k = ap expr_count (store_is c.args.expr.now _ _ _ c.in-Store.is) in
    let d = ap (λ (x : Expr). expr_count (expr_view x)) c.deref-in-Store.ensures in
    let f = ap (λ (x : Expr). expr_count (expr_view x)) c.deref-in-Store-2.ensures in
    let d0 = c.decreases in
    (omega arith, (c.requires.known, (refl, omega arith)))

pub judge-judge_binary-requires : goal.judge-judge_binary-requires
judge-judge_binary-requires t c =
    let r = c.requires.room in
    let k = ap expr_count (binary_is c.args.expr.now _ _ _ c.in-Binary.is) in
    let d = ap (λ (x : Expr). expr_count (expr_view x)) c.deref-in-Binary.ensures in
    let f = ap (λ (x : Expr). expr_count (expr_view x)) c.deref-in-Binary-2.ensures in
    let d0 = c.decreases in
    (omega arith, (c.requires.known, (refl, omega arith)))

pub judge-judge_chain-requires : goal.judge-judge_chain-requires
judge-judge_chain-requires t c =
    let r = c.requires.room in
    let k = ap expr_count (chain_is c.args.expr.now _ _ c.in-Chain.is) in
    let d = ap (λ (x : Expr). expr_count (expr_view x)) c.deref-in-Chain.ensures in
    let l = ap (λ (x : List Link). links_count (links_view x)) c.as_slice-in-Chain.ensures in
    let d0 = c.decreases in
    (omega arith, (c.requires.known, (refl, omega arith)))

pub judge-judge_cond-requires : goal.judge-judge_cond-requires
judge-judge_cond-requires t c =
    let r = c.requires.room in
    let k = ap expr_count (cond_is c.args.expr.now _ _ _ c.in-Cond.is) in
    let d = ap (λ (x : Expr). expr_count (expr_view x)) c.deref-in-Cond.ensures in
    let f = ap (λ (x : Expr). expr_count (expr_view x)) c.deref-in-Cond-2.ensures in
    let g = ap (λ (x : Expr). expr_count (expr_view x)) c.deref-in-Cond-3.ensures in
    let d0 = c.decreases in
    (omega arith, (c.requires.known, (refl, omega arith)))

pub judge-judge_comma-requires : goal.judge-judge_comma-requires
judge-judge_comma-requires t c =
    let r = c.requires.room in
    let k = ap expr_count (comma_is c.args.expr.now _ _ c.in-Comma.is c.as_slice-in-Comma.ensures) in
    let d0 = c.decreases in
    (omega arith, (c.requires.known, omega arith))

pub judge-returns-in_err-t-in-Index-clause-row : goal.judge-returns-in_err-t-in-Index-clause-row
judge-returns-in_err-t-in-Index-clause-row t c =
    rw (index_is c.args.expr.now c.in-Index.name c.in-Index.index c.deref.result.now c.in-Index.is c.deref.ensures) (first_before _ _ _ c.in_err-t-in-Index.ensures.row ∙ search rules)

pub judge-returns-in_err-known-in-Call-clause-row : goal.judge-returns-in_err-known-in-Call-clause-row
judge-returns-in_err-known-in-Call-clause-row t c =
    rw (call_is c.args.expr.now c.in-Call.name c.in-Call.arguments c.as_slice.result.now c.in-Call.is c.as_slice.ensures) (first_before _ _ _ c.in_err-known-in-Call.ensures.row ∙ search rules)

pub judge-returns-in_err-judge-in-TableCall-clause-row : goal.judge-returns-in_err-judge-in-TableCall-clause-row
judge-returns-in_err-judge-in-TableCall-clause-row t c =
    rw (table_call_is c.args.expr.now c.in-TableCall.name c.in-TableCall.index c.in-TableCall.arguments c.deref-in-TableCall.result.now (list_items c.in-TableCall.arguments) c.in-TableCall.is c.deref-in-TableCall.ensures refl) (first_before _ _ _ c.in_err-judge-in-TableCall.ensures.row ∙ search rules)

pub judge-returns-in_err-judge_all-in-TableCall-clause-row : goal.judge-returns-in_err-judge_all-in-TableCall-clause-row
judge-returns-in_err-judge_all-in-TableCall-clause-row t c =
    let i = c.in_ok-judge-in-TableCall.ensures in
    rw (table_call_is c.args.expr.now c.in-TableCall.name c.in-TableCall.index c.in-TableCall.arguments c.deref-in-TableCall.result.now c.as_slice-in-TableCall.result.now c.in-TableCall.is c.deref-in-TableCall.ensures c.as_slice-in-TableCall.ensures) (first_after _ _ i.row ∙ rw (← i.counted) (first_before _ _ _ c.in_err-judge_all-in-TableCall.ensures.row ∙ search rules))

pub judge-returns-in_err-t-in-Assign-clause-row : goal.judge-returns-in_err-t-in-Assign-clause-row
judge-returns-in_err-t-in-Assign-clause-row t c =
    rw (assign_is c.args.expr.now c.in-Assign.name c.in-Assign.value c.deref-in-Assign.result.now c.in-Assign.is c.deref-in-Assign.ensures) (first_before _ _ _ c.in_err-t-in-Assign.ensures.row ∙ search rules)

pub judge-returns-in_err-t-in-Unary-clause-row : goal.judge-returns-in_err-t-in-Unary-clause-row
judge-returns-in_err-t-in-Unary-clause-row t c =
    rw (unary_is c.args.expr.now c.in-Unary.op c.in-Unary.operand c.deref-in-Unary.result.now c.in-Unary.is c.deref-in-Unary.ensures) (first_before _ _ _ c.in_err-t-in-Unary.ensures.row ∙ search rules)

pub judge-returns-in-Lit-clause-typed : goal.judge-returns-in-Lit-clause-typed
judge-returns-in-Lit-clause-typed t c =
    let fits : FitsSigned w128 c.in-Lit.value = search rules in
    lit_typed (scope_view c.args.context.now.scope) (expr_view c.args.expr.now) c.in-Lit.value c.literal_type.result c.typed.result (ap expr_view c.in-Lit.is ∙ expr_view-Lit c.in-Lit.value) (c.literal_type.ensures ∙ ap literal_type (to_z-of_z w128 c.in-Lit.value fits)) c.typed.ensures.typed

pub judge-returns-in_ok-judge_all-in-TableCall-clause-row : goal.judge-returns-in_ok-judge_all-in-TableCall-clause-row
judge-returns-in_ok-judge_all-in-TableCall-clause-row t c =
    let i = c.in_ok-judge-in-TableCall.ensures in
    let l = c.in_ok-judge_all-in-TableCall.ensures in
    let found = c.table_refused.ensures in
    rw (table_call_is c.args.expr.now _ _ _ _ _ c.in-TableCall.is c.deref-in-TableCall.ensures c.as_slice-in-TableCall.ensures) (first_after _ _ i.row ∙ rw (← i.counted) (first_after _ _ l.row ∙ cc))

pub judge_all-returns-in_err-t-clause-row : goal.judge_all-returns-in_err-t-clause-row
judge_all-returns-in_err-t-clause-row t c =
    c.loop-expr.invariant.rest
    ∙ exprs_within _ c.args.exprs.now c.loop-expr.expr-index c.expr-item.result c.loop-expr-test.true c.expr-item.is _ _ c.in_err-t.ensures.row
    ∙ search rules

pub judge_all-loop-expr-preserved : goal.judge_all-loop-expr-preserved
judge_all-loop-expr-preserved t c =
    let k = exprs_step c.args.exprs.now c.loop-expr.expr-index c.expr-item.result c.loop-expr-test.true c.expr-item.is in
    let left = c.loop-expr.invariant.left in
    let counted = c.loop-expr.invariant.counted in
    let n = c.in_ok-t.ensures.counted in
    record {
      rest = c.loop-expr.invariant.rest ∙ exprs_after _ c.args.exprs.now c.loop-expr.expr-index c.expr-item.result c.loop-expr-test.true c.expr-item.is _ _ c.in_ok-t.ensures.row n;
      count = c.seen-known.ensures.count ∙ c.loop-expr.invariant.count;
      ints = below_step _ Int c.args.exprs.now c.loop-expr.expr-index c.expr-item.result c.in_ok-t.t _ _ c.loop-expr-test.true c.expr-item.is c.in_ok-t.ensures.typed c.seen-known.ensures.ints ∙ c.loop-expr.invariant.ints;
      externs = below_step _ Extern c.args.exprs.now c.loop-expr.expr-index c.expr-item.result c.in_ok-t.t _ _ c.loop-expr-test.true c.expr-item.is c.in_ok-t.ensures.typed c.seen-known.ensures.externs ∙ c.loop-expr.invariant.externs;
      left = omega arith;
      counted = omega arith;
    }

pub judge_all-returns-clause-count : goal.judge_all-returns-clause-count
judge_all-returns-clause-count t c =
    c.loop-expr.invariant.count ∙ sym (lengths c.args.exprs.now)

pub judge_binary-returns-in_err-a-clause-row : goal.judge_binary-returns-in_err-a-clause-row
judge_binary-returns-in_err-a-clause-row t c =
    ap first (binary_rows (scope_view c.args.context.now.scope) c.args.node c.args.at.now c.args.op (expr_view c.args.left.now) (expr_view c.args.right.now) c.is_coerced_call-coerced.result c.is_coerced_call-coerced.ensures c.if-coerced.false c.requires.begun) ∙ first_before _ _ _ c.in_err-a.ensures.row ∙ search rules

pub judge_binary-returns-in_err-b-clause-row : goal.judge_binary-returns-in_err-b-clause-row
judge_binary-returns-in_err-b-clause-row t c =
    ap first (binary_rows (scope_view c.args.context.now.scope) c.args.node c.args.at.now c.args.op (expr_view c.args.left.now) (expr_view c.args.right.now) c.is_coerced_call-coerced.result c.is_coerced_call-coerced.ensures c.if-coerced.false c.requires.begun) ∙ first_after _ _ c.in_ok-a.ensures.row ∙ rw (← c.in_ok-a.ensures.counted) (first_before _ _ _ c.in_err-b.ensures.row ∙ search rules)

pub judge_call-returns-in_err-known-in-Call-clause-row : goal.judge_call-returns-in_err-known-in-Call-clause-row
judge_call-returns-in_err-known-in-Call-clause-row t c =
    rw (call_is c.args.call.now c.in-Call.name c.in-Call.arguments c.as_slice.result.now c.in-Call.is c.as_slice.ensures) (first_before _ _ _ c.in_err-known-in-Call.ensures.row ∙ search rules)

pub judge_call-returns-in_err-judge-in-TableCall-clause-row : goal.judge_call-returns-in_err-judge-in-TableCall-clause-row
judge_call-returns-in_err-judge-in-TableCall-clause-row t c =
    rw (table_call_is c.args.call.now c.in-TableCall.name c.in-TableCall.index c.in-TableCall.arguments c.deref.result.now (list_items c.in-TableCall.arguments) c.in-TableCall.is c.deref.ensures refl) (first_before _ _ _ c.in_err-judge-in-TableCall.ensures.row ∙ search rules)

pub judge_call-judge_all-requires-in-TableCall : goal.judge_call-judge_all-requires-in-TableCall
judge_call-judge_all-requires-in-TableCall t c =
    let r = c.requires.room in
    let k = ap expr_count (table_call_is c.args.call.now c.in-TableCall.name c.in-TableCall.index c.in-TableCall.arguments c.deref.result.now c.as_slice-in-TableCall.result.now c.in-TableCall.is c.deref.ensures c.as_slice-in-TableCall.ensures) in
    let n = c.in_ok-judge-in-TableCall.ensures.counted in
    let d0 = c.decreases in
    (omega arith, (c.requires.known, omega arith))

pub judge_call-returns-in_err-known-in-TableCall-clause-row : goal.judge_call-returns-in_err-known-in-TableCall-clause-row
judge_call-returns-in_err-known-in-TableCall-clause-row t c =
    let i = c.in_ok-judge-in-TableCall.ensures in
    rw (table_call_is c.args.call.now c.in-TableCall.name c.in-TableCall.index c.in-TableCall.arguments c.deref.result.now c.as_slice-in-TableCall.result.now c.in-TableCall.is c.deref.ensures c.as_slice-in-TableCall.ensures) (first_after _ _ i.row ∙ rw (← i.counted) (first_before _ _ _ c.in_err-known-in-TableCall.ensures.row ∙ search rules))

pub judge_call-returns-in_ok-known-in-TableCall-clause-row : goal.judge_call-returns-in_ok-known-in-TableCall-clause-row
judge_call-returns-in_ok-known-in-TableCall-clause-row t c =
    let i = c.in_ok-judge-in-TableCall.ensures in
    let l = c.in_ok-known-in-TableCall.ensures in
    rw (table_call_is c.args.call.now c.in-TableCall.name c.in-TableCall.index c.in-TableCall.arguments c.deref.result.now c.as_slice-in-TableCall.result.now c.in-TableCall.is c.deref.ensures c.as_slice-in-TableCall.ensures) (first_after _ _ i.row ∙ rw (← i.counted) (first_after _ _ l.row ∙ table_row (scope_view c.args.context.now.scope) c.args.asked (meaning_view c.meaning-meaning.result) (text_bytes c.in-TableCall.name) (expr_view c.deref.result.now) (expr_view c.deref-in-TableCall.result.now) (exprs_view c.as_slice-in-TableCall.result.now) c.in_ok-known-in-TableCall.known.count c.in_ok-known-in-TableCall.known.ints c.args.at.now _ (ap expr_view (c.deref-in-TableCall.ensures ∙ sym c.deref.ensures)) c.meaning-meaning.ensures l.count l.ints c.table_called.ensures.row))

pub judge_call-returns-in_ok-known-in-TableCall-clause-fits : goal.judge_call-returns-in_ok-known-in-TableCall-clause-fits
judge_call-returns-in_ok-known-in-TableCall-clause-fits t c =
    let i = c.in_ok-judge-in-TableCall.ensures in
    let l = c.in_ok-known-in-TableCall.ensures in
    table_call_fits (scope_view c.args.context.now.scope) c.args.asked (expr_view c.args.call.now) (meaning_view c.meaning-meaning.result) (text_bytes c.in-TableCall.name) (expr_view c.deref.result.now) (expr_view c.deref-in-TableCall.result.now) (exprs_view c.as_slice-in-TableCall.result.now) c.in_ok-known-in-TableCall.known.count c.in_ok-known-in-TableCall.known.ints _ c.table_called.result (ap expr_view (c.deref-in-TableCall.ensures ∙ sym c.deref.ensures)) (table_call_is c.args.call.now c.in-TableCall.name c.in-TableCall.index c.in-TableCall.arguments c.deref.result.now c.as_slice-in-TableCall.result.now c.in-TableCall.is c.deref.ensures c.as_slice-in-TableCall.ensures) c.meaning-meaning.ensures l.count l.ints i.typed c.table_called.ensures.fits c.table_called.ensures.masked

pub judge_call-returns-in_ok-known-in-TableCall-clause-counted : goal.judge_call-returns-in_ok-known-in-TableCall-clause-counted
judge_call-returns-in_ok-known-in-TableCall-clause-counted t c =
    let k = ap expr_count (table_call_is c.args.call.now c.in-TableCall.name c.in-TableCall.index c.in-TableCall.arguments c.deref.result.now c.as_slice-in-TableCall.result.now c.in-TableCall.is c.deref.ensures c.as_slice-in-TableCall.ensures) in
    let i = c.in_ok-judge-in-TableCall.ensures.counted in
    let l = c.in_ok-known-in-TableCall.ensures.counted in
    let all : c.judge_all-in-TableCall.new.at ≡ c.args.at.now + expr_count (expr_view c.args.call.now) = omega arith in
    if_ok _ all

pub judge_chain-returns-in_err-known-clause-row : goal.judge_chain-returns-in_err-known-clause-row
judge_chain-returns-in_err-known-clause-row t c =
    rw (← c.requires.begun) (first_after _ _ c.in_ok-t.ensures.row ∙ rw (← c.in_ok-t.ensures.counted) (first_before _ _ _ c.in_err-known.ensures.row ∙ search rules))

pub judge_chain-returns-clause-row : goal.judge_chain-returns-clause-row
judge_chain-returns-clause-row t c =
    let l = c.in_ok-known.ensures in
    rw (← c.requires.begun) (first_after _ _ c.in_ok-t.ensures.row ∙ rw (← c.in_ok-t.ensures.counted) (first_after _ _ l.row ∙ chain_end (scope_view c.args.context.now.scope) (expr_view c.args.head.now) (links_view c.args.links.now) c.in_ok-t.t c.in_ok-known.known.ints c.in_ok-known.known.count c.args.node _ c.in_ok-t.ensures.typed l.ints l.count c.chained.ensures.row))

pub judge_chain-returns-clause-typed : goal.judge_chain-returns-clause-typed
judge_chain-returns-clause-typed t c =
    let l = c.in_ok-known.ensures in
    chain_typed (scope_view c.args.context.now.scope) (expr_view c.args.head.now) (links_view c.args.links.now) c.in_ok-t.t c.in_ok-known.known.ints c.in_ok-known.known.count c.chained.result c.in_ok-t.ensures.typed l.ints l.count c.chained.ensures.typed

pub judge_comma-returns-in_err-judge_effect-clause-row : goal.judge_comma-returns-in_err-judge_effect-clause-row
judge_comma-returns-in_err-judge_effect-clause-row t c =
    let h : c.loop-i.i + 1 < length c.args.parts.now = omega arith in
    c.loop-i.invariant.rest
    ∙ comma_within _ c.args.parts.now c.loop-i.i c.index-parts-i.result h c.index-parts-i.is _ _ c.in_err-judge_effect.ensures.row
    ∙ search rules

pub judge_comma-loop-i-preserved : goal.judge_comma-loop-i-preserved
judge_comma-loop-i-preserved t c =
    let h : c.loop-i.i + 1 < length c.args.parts.now = omega arith in
    let w : c.loop-i.i < length c.args.parts.now = omega arith in
    let k = exprs_step c.args.parts.now c.loop-i.i c.index-parts-i.result w c.index-parts-i.is in
    let left = c.loop-i.invariant.left in
    let counted = c.loop-i.invariant.counted in
    let n = c.in_ok-judge_effect.ensures.counted in
    record {
      rest = c.loop-i.invariant.rest ∙ comma_after _ c.args.parts.now c.loop-i.i c.index-parts-i.result h c.index-parts-i.is _ _ c.in_ok-judge_effect.ensures.row n;
      last = c.loop-i.invariant.last ∙ comma_type _ c.args.parts.now c.loop-i.i c.index-parts-i.result h c.index-parts-i.is c.in_ok-judge_effect.ensures.fits;
      left = omega arith;
      counted = omega arith;
    }

pub judge_comma-returns-clause-row : goal.judge_comma-returns-clause-row
judge_comma-returns-clause-row t c =
    c.loop-i.invariant.rest ∙ ap (λ es. first (rows.comma_rows (scope_view c.args.context.now.scope) c.loop-i.at es)) (last_at c.args.parts.now c.loop-i.i (length c.args.parts.now - 1) c.index-parts-last.result (omega arith) (omega arith) c.index-parts-last.is) ∙ c.judge.ensures.row

pub judge_comma-returns-clause-typed : goal.judge_comma-returns-clause-typed
judge_comma-returns-clause-typed t c =
    rw (c.loop-i.invariant.last ∙ ap (last_type (scope_view c.args.context.now.scope)) (last_at c.args.parts.now c.loop-i.i (length c.args.parts.now - 1) c.index-parts-last.result (omega arith) (omega arith) c.index-parts-last.is)) c.judge.ensures.typed

pub judge_cond-returns-in_err-t-clause-row : goal.judge_cond-returns-in_err-t-clause-row
judge_cond-returns-in_err-t-clause-row t c =
    rw (← c.requires.begun) (first_before _ _ _ c.in_err-t.ensures.row ∙ search rules)

pub judge_cond-returns-in_err-a-clause-row : goal.judge_cond-returns-in_err-a-clause-row
judge_cond-returns-in_err-a-clause-row t c =
    cond_second (scope_view c.args.context.now.scope) c.args.node c.args.at.now (expr_view c.args.condition.now) (expr_view c.args.yes.now) (expr_view c.args.no.now) c.in_ok-t.t c.below.result c.requires.begun c.in_ok-t.ensures.row c.in_ok-t.ensures.typed c.below.ensures.value c.in_ok-needs.ensures.held ∙ rw (← c.in_ok-t.ensures.counted) (first_before _ _ _ c.in_err-a.ensures.row ∙ search rules)

pub judge_cond-returns-in_err-b-clause-row : goal.judge_cond-returns-in_err-b-clause-row
judge_cond-returns-in_err-b-clause-row t c =
    cond_second (scope_view c.args.context.now.scope) c.args.node c.args.at.now (expr_view c.args.condition.now) (expr_view c.args.yes.now) (expr_view c.args.no.now) c.in_ok-t.t c.below.result c.requires.begun c.in_ok-t.ensures.row c.in_ok-t.ensures.typed c.below.ensures.value c.in_ok-needs.ensures.held ∙ rw (← c.in_ok-t.ensures.counted) (first_after _ _ c.in_ok-a.ensures.row ∙ rw (← c.in_ok-a.ensures.counted) (first_before _ _ _ c.in_err-b.ensures.row ∙ search rules))

pub judge_links-judge-requires : goal.judge_links-judge-requires
judge_links-judge-requires t c =
    let k = links_step c.args.links.now c.loop-link.link-index c.link-item.result c.loop-link-test.true c.link-item.is in
    let left = c.loop-link.invariant.left in
    let counted = c.loop-link.invariant.counted in
    let r = c.requires.room in
    let d0 = c.decreases in
    (omega arith, (c.requires.known, omega arith))

pub judge_links-returns-in_err-t-clause-row : goal.judge_links-returns-in_err-t-clause-row
judge_links-returns-in_err-t-clause-row t c =
    c.loop-link.invariant.rest
    ∙ links_within _ c.args.links.now c.loop-link.link-index c.link-item.result c.loop-link-test.true c.link-item.is _ _ c.in_err-t.ensures.row
    ∙ search rules

pub judge_links-loop-link-preserved : goal.judge_links-loop-link-preserved
judge_links-loop-link-preserved t c =
    let k = links_step c.args.links.now c.loop-link.link-index c.link-item.result c.loop-link-test.true c.link-item.is in
    let left = c.loop-link.invariant.left in
    let counted = c.loop-link.invariant.counted in
    let n = c.in_ok-t.ensures.counted in
    record {
      rest = c.loop-link.invariant.rest ∙ links_after _ c.args.links.now c.loop-link.link-index c.link-item.result c.loop-link-test.true c.link-item.is _ _ c.in_ok-t.ensures.row n;
      count = c.seen-known.ensures.count ∙ c.loop-link.invariant.count;
      ints = fit_step _ c.args.links.now c.loop-link.link-index c.link-item.result c.loop-link-test.true c.link-item.is c.in_ok-t.t _ _ c.in_ok-t.ensures.typed c.seen-known.ensures.ints ∙ c.loop-link.invariant.ints;
      left = omega arith;
      counted = omega arith;
    }

pub judge_links-returns-clause-count : goal.judge_links-returns-clause-count
judge_links-returns-clause-count t c =
    c.loop-link.invariant.count ∙ sym (link_lengths c.args.links.now)

pub judge_store-returns-in_err-s-clause-row : goal.judge_store-returns-in_err-s-clause-row
judge_store-returns-in_err-s-clause-row t c =
    rw (← c.requires.begun) (first_before _ _ _ c.in_err-s.ensures.row ∙ search rules)

pub judge_store-returns-in_err-t-clause-row : goal.judge_store-returns-in_err-t-clause-row
judge_store-returns-in_err-t-clause-row t c =
    rw (← c.requires.begun) (first_after _ _ c.in_ok-s.ensures.row ∙ rw (← c.in_ok-s.ensures.counted) (first_before _ _ _ c.in_err-t.ensures.row ∙ search rules))

-- What the calls require: there is room for the nodes that are left. What returns gives: the parts' marks, one after another.
use Rattle.std.proofs.Common.{rules, ◌≡◌, ℕ, ◌+◌, ◌++◌, List, Ok, Err, length, ap, subst, sym, ◌∙◌, refl, arith}
use Rattle.sem_words.specs.Lists.{text_bytes}
use Rattle.asm_tree.specs.Views.{expr_view, exprs_view, links_view}
use Rattle.asm_lang_valid.specs.Rows.{expr_count, exprs_count, links_count}
use Rattle.asm_lang_valid.specs.LimitRows.{Mark, expr_marks, exprs_marks, links_marks, comma_marks}
use Rattle.asm_lang_valid.specs.Typing.{named, exprs_length}
use Rattle.asm_names.specs.Meanings.{meaning_view}
use Rattle.asm_names.specs.Members.{IsNumbered}
use Rattle.asm_names.specs.Scopes.{scope_view}
use Rattle.asm_validate_limits.specs.Passes.{Tallied}
use Rattle.asm_validate_limits.specs.Places.{placed_marks, called_marks, left_place}
use Rattle.asm_validate_limits.proofs.Passes.{err_first, then_, then_at, same, from_err}
use Rattle.asm_validate_limits.proofs.Shapes.{positive, index_is, assign_is, unary_is, call_is, comma_is, table_call_is, store_is, binary_is, chain_is, cond_is, no_direct}
use Rattle.asm_validate_limits.proofs.Parts.{entered, inside, of_form, leaf_any, binary_marks, placed_other, placed_direct, arguments_length, nodes_left, operands_left, next_argument, argument_ends, no_arguments, next_operand, operand_ends, no_operands, next_part, part_ends, no_parts}
use Rattle.asm_validate_limits.proofs.expressions.+expressions.Goals as goal

pub both_limits-returns-in_err-expr_limits : goal.both_limits-returns-in_err-expr_limits
both_limits-returns-in_err-expr_limits t c =
    let rest : ℕ → List Mark = (λ at. expr_marks (scope_view c.args.scope.now) at (expr_view c.args.right.now)) in
    err_first (expr_marks (scope_view c.args.scope.now) c.args.tally.now.at (expr_view c.args.left.now)) (rest (c.args.tally.now.at + (expr_count (expr_view c.args.left.now)))) _ c.args.tally.now _ _ c.in_err-expr_limits.field-0.0 (search rules) c.in_err-expr_limits.ensures

pub both_limits-returns : goal.both_limits-returns
both_limits-returns t c =
    then_at (expr_marks (scope_view c.args.scope.now) c.args.tally.now.at (expr_view c.args.left.now)) (λ at. expr_marks (scope_view c.args.scope.now) at (expr_view c.args.right.now)) (expr_count (expr_view c.args.left.now)) (expr_count (expr_view c.args.right.now)) c.args.tally.now c.expr_limits.new.tally c.expr_limits-2.new.tally c.expr_limits-2.result c.in_ok-expr_limits.ensures c.expr_limits-2.ensures

pub both_limits-expr_limits-requires-2 : goal.both_limits-expr_limits-requires-2
both_limits-expr_limits-requires-2 t c =
    let r = c.requires.room in
    let d0 = c.decreases in
    let n = c.in_ok-expr_limits.ensures.counted in
    (omega arith, (c.requires.known, (c.in_ok-expr_limits.ensures.of _ c.requires.of, omega arith)))

pub binary_limits-returns-in_err-placed_limits : goal.binary_limits-returns-in_err-placed_limits
binary_limits-returns-in_err-placed_limits t c =
    let rest : List Mark = expr_marks (scope_view c.args.scope.now) (c.args.tally.now.at + expr_count (expr_view c.args.left.now)) (expr_view c.args.right.now) in
    let n = expr_count (expr_view c.args.left.now) + expr_count (expr_view c.args.right.now) in
    subst (λ p. Tallied (placed_marks (scope_view c.args.scope.now) p c.args.tally.now.at (expr_view c.args.left.now) ++ rest) n c.args.tally.now c.placed_limits.new.tally c.from_residual.result) c.left_place.ensures
    (err_first (placed_marks (scope_view c.args.scope.now) c.left_place.result c.args.tally.now.at (expr_view c.args.left.now)) rest n c.args.tally.now c.placed_limits.new.tally c.from_residual.result c.in_err-placed_limits.field-0.0 (search rules) c.in_err-placed_limits.ensures)

pub binary_limits-returns : goal.binary_limits-returns
binary_limits-returns t c =
    subst (λ p. Tallied (placed_marks (scope_view c.args.scope.now) p c.args.tally.now.at (expr_view c.args.left.now) ++ expr_marks (scope_view c.args.scope.now) (c.args.tally.now.at + expr_count (expr_view c.args.left.now)) (expr_view c.args.right.now)) (expr_count (expr_view c.args.left.now) + expr_count (expr_view c.args.right.now)) c.args.tally.now c.expr_limits.new.tally c.expr_limits.result) c.left_place.ensures
    (then_at (placed_marks (scope_view c.args.scope.now) c.left_place.result c.args.tally.now.at (expr_view c.args.left.now)) (λ at. expr_marks (scope_view c.args.scope.now) at (expr_view c.args.right.now)) (expr_count (expr_view c.args.left.now)) (expr_count (expr_view c.args.right.now)) c.args.tally.now c.placed_limits.new.tally c.expr_limits.new.tally c.expr_limits.result c.in_ok-placed_limits.ensures c.expr_limits.ensures)

pub binary_limits-expr_limits-requires : goal.binary_limits-expr_limits-requires
binary_limits-expr_limits-requires t c =
    let r = c.requires.room in
    let d0 = c.decreases in
    let n = c.in_ok-placed_limits.ensures.counted in
    (omega arith, (c.requires.known, (c.in_ok-placed_limits.ensures.of _ c.requires.of, omega arith)))

pub cond_limits-returns-in_err-expr_limits : goal.cond_limits-returns-in_err-expr_limits
cond_limits-returns-in_err-expr_limits t c =
    let rest : ℕ → List Mark = (λ at. expr_marks (scope_view c.args.scope.now) at (expr_view c.args.yes.now) ++ expr_marks (scope_view c.args.scope.now) (at + expr_count (expr_view c.args.yes.now)) (expr_view c.args.no.now)) in
    err_first (expr_marks (scope_view c.args.scope.now) c.args.tally.now.at (expr_view c.args.condition.now)) (rest (c.args.tally.now.at + (expr_count (expr_view c.args.condition.now)))) _ c.args.tally.now _ _ c.in_err-expr_limits.field-0.0 (search rules) c.in_err-expr_limits.ensures

pub cond_limits-returns : goal.cond_limits-returns
cond_limits-returns t c =
    then_at (expr_marks (scope_view c.args.scope.now) c.args.tally.now.at (expr_view c.args.condition.now)) (λ at. expr_marks (scope_view c.args.scope.now) at (expr_view c.args.yes.now) ++ expr_marks (scope_view c.args.scope.now) (at + expr_count (expr_view c.args.yes.now)) (expr_view c.args.no.now)) (expr_count (expr_view c.args.condition.now)) (expr_count (expr_view c.args.yes.now) + expr_count (expr_view c.args.no.now)) c.args.tally.now c.expr_limits.new.tally c.both_limits.new.tally c.both_limits.result c.in_ok-expr_limits.ensures c.both_limits.ensures

pub cond_limits-both_limits-requires : goal.cond_limits-both_limits-requires
cond_limits-both_limits-requires t c =
    let r = c.requires.room in
    let d0 = c.decreases in
    let n = c.in_ok-expr_limits.ensures.counted in
    (omega arith, (c.requires.known, (c.in_ok-expr_limits.ensures.of _ c.requires.of, omega arith)))

pub indexed_limits-returns-in_err-expr_limits : goal.indexed_limits-returns-in_err-expr_limits
indexed_limits-returns-in_err-expr_limits t c =
    let rest : ℕ → List Mark = (λ at. exprs_marks (scope_view c.args.scope.now) at (exprs_view c.args.arguments.now)) in
    err_first (expr_marks (scope_view c.args.scope.now) c.args.tally.now.at (expr_view c.args.index.now)) (rest (c.args.tally.now.at + (expr_count (expr_view c.args.index.now)))) _ c.args.tally.now _ _ c.in_err-expr_limits.field-0.0 (search rules) c.in_err-expr_limits.ensures

pub indexed_limits-returns : goal.indexed_limits-returns
indexed_limits-returns t c =
    then_at (expr_marks (scope_view c.args.scope.now) c.args.tally.now.at (expr_view c.args.index.now)) (λ at. exprs_marks (scope_view c.args.scope.now) at (exprs_view c.args.arguments.now)) (expr_count (expr_view c.args.index.now)) (exprs_count (exprs_view c.args.arguments.now)) c.args.tally.now c.expr_limits.new.tally c.exprs_limits.new.tally c.exprs_limits.result c.in_ok-expr_limits.ensures c.exprs_limits.ensures

pub indexed_limits-exprs_limits-requires : goal.indexed_limits-exprs_limits-requires
indexed_limits-exprs_limits-requires t c =
    let r = c.requires.room in
    let d0 = c.decreases in
    let n = c.in_ok-expr_limits.ensures.counted in
    (omega arith, (c.requires.known, (c.in_ok-expr_limits.ensures.of _ c.requires.of, omega arith)))

pub chain_limits-returns-in_err-expr_limits : goal.chain_limits-returns-in_err-expr_limits
chain_limits-returns-in_err-expr_limits t c =
    let rest : ℕ → List Mark = (λ at. links_marks (scope_view c.args.scope.now) at (links_view c.args.links.now)) in
    err_first (expr_marks (scope_view c.args.scope.now) c.args.tally.now.at (expr_view c.args.first.now)) (rest (c.args.tally.now.at + (expr_count (expr_view c.args.first.now)))) _ c.args.tally.now _ _ c.in_err-expr_limits.field-0.0 (search rules) c.in_err-expr_limits.ensures

pub chain_limits-returns : goal.chain_limits-returns
chain_limits-returns t c =
    then_at (expr_marks (scope_view c.args.scope.now) c.args.tally.now.at (expr_view c.args.first.now)) (λ at. links_marks (scope_view c.args.scope.now) at (links_view c.args.links.now)) (expr_count (expr_view c.args.first.now)) (links_count (links_view c.args.links.now)) c.args.tally.now c.expr_limits.new.tally c.links_limits.new.tally c.links_limits.result c.in_ok-expr_limits.ensures c.links_limits.ensures

pub chain_limits-links_limits-requires : goal.chain_limits-links_limits-requires
chain_limits-links_limits-requires t c =
    let r = c.requires.room in
    let d0 = c.decreases in
    let n = c.in_ok-expr_limits.ensures.counted in
    (omega arith, (c.requires.known, (c.in_ok-expr_limits.ensures.of _ c.requires.of, omega arith)))

pub expr_limits-overflow_add-tally : goal.expr_limits-overflow_add-tally
expr_limits-overflow_add-tally t c =
    let r = c.requires.room in
    let p = positive (expr_view c.args.expr.now) in
    omega arith

pub expr_limits-expr_limits-requires : goal.expr_limits-expr_limits-requires
expr_limits-expr_limits-requires t c =
    let r = c.requires.room in
    let d0 = c.decreases in
    let k = ap expr_count (index_is c.args.expr.now _ _ _ c.in-Index.is c.deref.ensures) in
    (omega arith, (c.requires.known, (c.requires.of, omega arith)))

pub expr_limits-returns-in-Index : goal.expr_limits-returns-in-Index
expr_limits-returns-in-Index t c =
    of_form (scope_view c.args.scope.now) c.args.expr.now c.args.tally.now c.expr_limits.new.tally c.expr_limits.result _ (expr_marks (scope_view c.args.scope.now) (c.args.tally.now.at + 1) (expr_view c.deref.result.now)) (expr_count (expr_view c.deref.result.now)) (index_is c.args.expr.now _ _ _ c.in-Index.is c.deref.ensures) refl refl c.expr_limits.ensures

pub expr_limits-expr_limits-requires-in-Assign : goal.expr_limits-expr_limits-requires-in-Assign
expr_limits-expr_limits-requires-in-Assign t c =
    let r = c.requires.room in
    let d0 = c.decreases in
    let k = ap expr_count (assign_is c.args.expr.now _ _ _ c.in-Assign.is c.deref-in-Assign.ensures) in
    (omega arith, (c.requires.known, (c.requires.of, omega arith)))

pub expr_limits-returns-in-Assign : goal.expr_limits-returns-in-Assign
expr_limits-returns-in-Assign t c =
    of_form (scope_view c.args.scope.now) c.args.expr.now c.args.tally.now c.expr_limits-in-Assign.new.tally c.expr_limits-in-Assign.result _ (expr_marks (scope_view c.args.scope.now) (c.args.tally.now.at + 1) (expr_view c.deref-in-Assign.result.now)) (expr_count (expr_view c.deref-in-Assign.result.now)) (assign_is c.args.expr.now _ _ _ c.in-Assign.is c.deref-in-Assign.ensures) refl refl c.expr_limits-in-Assign.ensures

pub expr_limits-expr_limits-requires-in-Unary : goal.expr_limits-expr_limits-requires-in-Unary
expr_limits-expr_limits-requires-in-Unary t c =
    let r = c.requires.room in
    let d0 = c.decreases in
    let k = ap expr_count (unary_is c.args.expr.now _ _ _ c.in-Unary.is c.deref-in-Unary.ensures) in
    (omega arith, (c.requires.known, (c.requires.of, omega arith)))

pub expr_limits-returns-in-Unary : goal.expr_limits-returns-in-Unary
expr_limits-returns-in-Unary t c =
    of_form (scope_view c.args.scope.now) c.args.expr.now c.args.tally.now c.expr_limits-in-Unary.new.tally c.expr_limits-in-Unary.result _ (expr_marks (scope_view c.args.scope.now) (c.args.tally.now.at + 1) (expr_view c.deref-in-Unary.result.now)) (expr_count (expr_view c.deref-in-Unary.result.now)) (unary_is c.args.expr.now _ _ _ c.in-Unary.is c.deref-in-Unary.ensures) refl refl c.expr_limits-in-Unary.ensures

pub expr_limits-exprs_limits-requires : goal.expr_limits-exprs_limits-requires
expr_limits-exprs_limits-requires t c =
    let r = c.requires.room in
    let d0 = c.decreases in
    let k = ap expr_count (call_is c.args.expr.now _ _ _ c.in-Call.is c.as_slice.ensures) in
    (omega arith, (c.requires.known, (c.requires.of, omega arith)))

pub expr_limits-returns-in-Call : goal.expr_limits-returns-in-Call
expr_limits-returns-in-Call t c =
    of_form (scope_view c.args.scope.now) c.args.expr.now c.args.tally.now c.exprs_limits.new.tally c.exprs_limits.result _ (exprs_marks (scope_view c.args.scope.now) (c.args.tally.now.at + 1) (exprs_view c.as_slice.result.now)) (exprs_count (exprs_view c.as_slice.result.now)) (call_is c.args.expr.now _ _ _ c.in-Call.is c.as_slice.ensures) refl refl c.exprs_limits.ensures

pub expr_limits-indexed_limits-requires : goal.expr_limits-indexed_limits-requires
expr_limits-indexed_limits-requires t c =
    let r = c.requires.room in
    let d0 = c.decreases in
    let k = ap expr_count (table_call_is c.args.expr.now _ _ _ _ _ c.in-TableCall.is c.deref-in-TableCall.ensures c.as_slice-in-TableCall.ensures) in
    (omega arith, (c.requires.known, (c.requires.of, omega arith)))

pub expr_limits-returns-in-TableCall : goal.expr_limits-returns-in-TableCall
expr_limits-returns-in-TableCall t c =
    of_form (scope_view c.args.scope.now) c.args.expr.now c.args.tally.now c.indexed_limits.new.tally c.indexed_limits.result _ ((expr_marks (scope_view c.args.scope.now) (c.args.tally.now.at + 1) (expr_view c.deref-in-TableCall.result.now)) ++ exprs_marks (scope_view c.args.scope.now) ((c.args.tally.now.at + 1) + expr_count (expr_view c.deref-in-TableCall.result.now)) (exprs_view c.as_slice-in-TableCall.result.now)) (expr_count (expr_view c.deref-in-TableCall.result.now) + exprs_count (exprs_view c.as_slice-in-TableCall.result.now)) (table_call_is c.args.expr.now _ _ _ _ _ c.in-TableCall.is c.deref-in-TableCall.ensures c.as_slice-in-TableCall.ensures) refl refl c.indexed_limits.ensures

pub expr_limits-both_limits-requires : goal.expr_limits-both_limits-requires
expr_limits-both_limits-requires t c =
    let r = c.requires.room in
    let d0 = c.decreases in
    let k = ap expr_count (store_is c.args.expr.now _ _ _ _ _ c.in-Store.is c.deref-in-Store.ensures c.deref-in-Store-2.ensures) in
    (omega arith, (c.requires.known, (c.requires.of, omega arith)))

pub expr_limits-returns-in-Store : goal.expr_limits-returns-in-Store
expr_limits-returns-in-Store t c =
    of_form (scope_view c.args.scope.now) c.args.expr.now c.args.tally.now c.both_limits.new.tally c.both_limits.result _ ((expr_marks (scope_view c.args.scope.now) (c.args.tally.now.at + 1) (expr_view c.deref-in-Store.result.now)) ++ expr_marks (scope_view c.args.scope.now) ((c.args.tally.now.at + 1) + expr_count (expr_view c.deref-in-Store.result.now)) (expr_view c.deref-in-Store-2.result.now)) (expr_count (expr_view c.deref-in-Store.result.now) + expr_count (expr_view c.deref-in-Store-2.result.now)) (store_is c.args.expr.now _ _ _ _ _ c.in-Store.is c.deref-in-Store.ensures c.deref-in-Store-2.ensures) refl refl c.both_limits.ensures

pub expr_limits-binary_limits-requires : goal.expr_limits-binary_limits-requires
expr_limits-binary_limits-requires t c =
    let r = c.requires.room in
    let d0 = c.decreases in
    let k = ap expr_count (binary_is c.args.expr.now _ _ _ _ _ c.in-Binary.is c.deref-in-Binary.ensures c.deref-in-Binary-2.ensures) in
    (omega arith, (c.requires.known, (c.requires.of, omega arith)))

pub expr_limits-returns-in-Binary : goal.expr_limits-returns-in-Binary
expr_limits-returns-in-Binary t c =
    of_form (scope_view c.args.scope.now) c.args.expr.now c.args.tally.now c.binary_limits.new.tally c.binary_limits.result _ (placed_marks (scope_view c.args.scope.now) (left_place c.in-Binary.op (expr_view c.deref-in-Binary-2.result.now)) (c.args.tally.now.at + 1) (expr_view c.deref-in-Binary.result.now) ++ expr_marks (scope_view c.args.scope.now) ((c.args.tally.now.at + 1) + expr_count (expr_view c.deref-in-Binary.result.now)) (expr_view c.deref-in-Binary-2.result.now)) (expr_count (expr_view c.deref-in-Binary.result.now) + expr_count (expr_view c.deref-in-Binary-2.result.now)) (binary_is c.args.expr.now _ _ _ _ _ c.in-Binary.is c.deref-in-Binary.ensures c.deref-in-Binary-2.ensures) (binary_marks (scope_view c.args.scope.now) c.args.tally.now.at c.in-Binary.op (expr_view c.deref-in-Binary.result.now) (expr_view c.deref-in-Binary-2.result.now)) refl c.binary_limits.ensures

pub expr_limits-chain_limits-requires : goal.expr_limits-chain_limits-requires
expr_limits-chain_limits-requires t c =
    let r = c.requires.room in
    let d0 = c.decreases in
    let k = ap expr_count (chain_is c.args.expr.now _ _ _ _ c.in-Chain.is c.deref-in-Chain.ensures c.as_slice-in-Chain.ensures) in
    (omega arith, (c.requires.known, (c.requires.of, omega arith)))

pub expr_limits-returns-in-Chain : goal.expr_limits-returns-in-Chain
expr_limits-returns-in-Chain t c =
    of_form (scope_view c.args.scope.now) c.args.expr.now c.args.tally.now c.chain_limits.new.tally c.chain_limits.result _ ((expr_marks (scope_view c.args.scope.now) (c.args.tally.now.at + 1) (expr_view c.deref-in-Chain.result.now)) ++ links_marks (scope_view c.args.scope.now) ((c.args.tally.now.at + 1) + expr_count (expr_view c.deref-in-Chain.result.now)) (links_view c.as_slice-in-Chain.result.now)) (expr_count (expr_view c.deref-in-Chain.result.now) + links_count (links_view c.as_slice-in-Chain.result.now)) (chain_is c.args.expr.now _ _ _ _ c.in-Chain.is c.deref-in-Chain.ensures c.as_slice-in-Chain.ensures) refl refl c.chain_limits.ensures

pub expr_limits-cond_limits-requires : goal.expr_limits-cond_limits-requires
expr_limits-cond_limits-requires t c =
    let r = c.requires.room in
    let d0 = c.decreases in
    let k = ap expr_count (cond_is c.args.expr.now _ _ _ _ _ _ c.in-Cond.is c.deref-in-Cond.ensures c.deref-in-Cond-2.ensures c.deref-in-Cond-3.ensures) in
    (omega arith, (c.requires.known, (c.requires.of, omega arith)))

pub expr_limits-returns-in-Cond : goal.expr_limits-returns-in-Cond
expr_limits-returns-in-Cond t c =
    of_form (scope_view c.args.scope.now) c.args.expr.now c.args.tally.now c.cond_limits.new.tally c.cond_limits.result _ ((expr_marks (scope_view c.args.scope.now) (c.args.tally.now.at + 1) (expr_view c.deref-in-Cond.result.now)) ++ (expr_marks (scope_view c.args.scope.now) ((c.args.tally.now.at + 1) + expr_count (expr_view c.deref-in-Cond.result.now)) (expr_view c.deref-in-Cond-2.result.now) ++ expr_marks (scope_view c.args.scope.now) ((c.args.tally.now.at + 1) + expr_count (expr_view c.deref-in-Cond.result.now) + expr_count (expr_view c.deref-in-Cond-2.result.now)) (expr_view c.deref-in-Cond-3.result.now))) (expr_count (expr_view c.deref-in-Cond.result.now) + (expr_count (expr_view c.deref-in-Cond-2.result.now) + expr_count (expr_view c.deref-in-Cond-3.result.now))) (cond_is c.args.expr.now _ _ _ _ _ _ c.in-Cond.is c.deref-in-Cond.ensures c.deref-in-Cond-2.ensures c.deref-in-Cond-3.ensures) refl refl c.cond_limits.ensures

pub expr_limits-comma_limits-requires : goal.expr_limits-comma_limits-requires
expr_limits-comma_limits-requires t c =
    let r = c.requires.room in
    let d0 = c.decreases in
    let k = ap expr_count (comma_is c.args.expr.now _ _ c.in-Comma.is c.as_slice-in-Comma.ensures) in
    (omega arith, (c.requires.known, (c.requires.of, omega arith)))

pub expr_limits-returns-in-Comma : goal.expr_limits-returns-in-Comma
expr_limits-returns-in-Comma t c =
    of_form (scope_view c.args.scope.now) c.args.expr.now c.args.tally.now c.comma_limits.new.tally c.comma_limits.result _ (comma_marks (scope_view c.args.scope.now) (c.args.tally.now.at + 1) (exprs_view c.as_slice-in-Comma.result.now)) (exprs_count (exprs_view c.as_slice-in-Comma.result.now)) (comma_is c.args.expr.now _ _ c.in-Comma.is c.as_slice-in-Comma.ensures) refl refl c.comma_limits.ensures

pub placed_limits-direct_limits-requires : goal.placed_limits-direct_limits-requires
placed_limits-direct_limits-requires t c =
    let r = c.requires.room in
    let d0 = c.decreases in
    let k = ap expr_count (call_is c.args.expr.now _ _ _ c.in-Call.is c.as_slice.ensures) in
    (omega arith, (c.requires.known, (c.requires.of, omega arith)))

pub placed_limits-returns-in-Call : goal.placed_limits-returns-in-Call
placed_limits-returns-in-Call t c =
    let form = call_is c.args.expr.now _ _ _ c.in-Call.is c.as_slice.ensures in
    same _ _ _ _ c.args.tally.now c.direct_limits.new.tally c.direct_limits.result (ap (placed_marks (scope_view c.args.scope.now) c.args.place c.args.tally.now.at) form ∙ placed_direct (scope_view c.args.scope.now) c.args.place c.args.tally.now.at (text_bytes c.in-Call.name) (exprs_view c.as_slice.result.now)) (ap expr_count form) c.direct_limits.ensures

pub placed_limits-returns-in_default : goal.placed_limits-returns-in_default
placed_limits-returns-in_default t c =
    same (placed_marks (scope_view c.args.scope.now) c.args.place c.args.tally.now.at (expr_view c.args.expr.now)) (expr_marks (scope_view c.args.scope.now) c.args.tally.now.at (expr_view c.args.expr.now)) _ _ c.args.tally.now c.expr_limits.new.tally c.expr_limits.result (placed_other (scope_view c.args.scope.now) c.args.place c.args.tally.now.at (expr_view c.args.expr.now) (no_direct c.args.expr.now c.in_default.not-Call)) refl c.expr_limits.ensures

pub exprs_limits-expr_limits-requires : goal.exprs_limits-expr_limits-requires
exprs_limits-expr_limits-requires t c =
    let r = c.requires.room in
    let d0 = c.decreases in
    let k = nodes_left c.args.exprs.now c.loop-expr.expr-index c.expr-item.result c.loop-expr-test.true c.expr-item.is in
    let left = c.loop-expr.invariant.left in
    let counted = c.loop-expr.invariant.counted in
    (omega arith, (c.requires.known, (c.loop-expr.invariant.of, omega arith)))

pub exprs_limits-returns-in_err-expr_limits : goal.exprs_limits-returns-in_err-expr_limits
exprs_limits-returns-in_err-expr_limits t c =
    from_err _ _ c.args.tally.now _ _ c.in_err-expr_limits.field-0.0 (search rules) (c.loop-expr.invariant.rest c.expr_limits.new.tally (Err c.in_err-expr_limits.field-0.0) (argument_ends (scope_view c.args.scope.now) c.loop-expr.tally c.args.exprs.now c.loop-expr.expr-index c.expr-item.result c.expr_limits.new.tally c.in_err-expr_limits.field-0.0 c.loop-expr-test.true c.expr-item.is c.in_err-expr_limits.ensures))

pub exprs_limits-loop-expr-preserved : goal.exprs_limits-loop-expr-preserved
exprs_limits-loop-expr-preserved t c =
    let k = nodes_left c.args.exprs.now c.loop-expr.expr-index c.expr-item.result c.loop-expr-test.true c.expr-item.is in
    let left = c.loop-expr.invariant.left in
    let counted = c.loop-expr.invariant.counted in
    let n = c.in_ok-expr_limits.ensures.counted in
    record {
      rest = λ u r h. c.loop-expr.invariant.rest u r (next_argument (scope_view c.args.scope.now) c.loop-expr.tally c.args.exprs.now c.loop-expr.expr-index c.expr-item.result c.expr_limits.new.tally c.loop-expr-test.true c.expr-item.is c.in_ok-expr_limits.ensures u r h);
      left = omega arith;
      counted = omega arith;
      of = c.in_ok-expr_limits.ensures.of _ c.loop-expr.invariant.of;
    }

pub exprs_limits-returns : goal.exprs_limits-returns
exprs_limits-returns t c =
    c.loop-expr.invariant.rest c.loop-expr.tally (Ok tt) (no_arguments (scope_view c.args.scope.now) c.loop-expr.tally c.args.exprs.now c.loop-expr.expr-index c.loop-expr-test.false)

pub links_limits-expr_limits-requires : goal.links_limits-expr_limits-requires
links_limits-expr_limits-requires t c =
    let r = c.requires.room in
    let d0 = c.decreases in
    let k = operands_left c.args.links.now c.loop-link.link-index c.link-item.result c.loop-link-test.true c.link-item.is in
    let left = c.loop-link.invariant.left in
    let counted = c.loop-link.invariant.counted in
    (omega arith, (c.requires.known, (c.loop-link.invariant.of, omega arith)))

pub links_limits-returns-in_err-expr_limits : goal.links_limits-returns-in_err-expr_limits
links_limits-returns-in_err-expr_limits t c =
    from_err _ _ c.args.tally.now _ _ c.in_err-expr_limits.field-0.0 (search rules) (c.loop-link.invariant.rest c.expr_limits.new.tally (Err c.in_err-expr_limits.field-0.0) (operand_ends (scope_view c.args.scope.now) c.loop-link.tally c.args.links.now c.loop-link.link-index c.link-item.result c.expr_limits.new.tally c.in_err-expr_limits.field-0.0 c.loop-link-test.true c.link-item.is c.in_err-expr_limits.ensures))

pub links_limits-loop-link-preserved : goal.links_limits-loop-link-preserved
links_limits-loop-link-preserved t c =
    let k = operands_left c.args.links.now c.loop-link.link-index c.link-item.result c.loop-link-test.true c.link-item.is in
    let left = c.loop-link.invariant.left in
    let counted = c.loop-link.invariant.counted in
    let n = c.in_ok-expr_limits.ensures.counted in
    record {
      rest = λ u r h. c.loop-link.invariant.rest u r (next_operand (scope_view c.args.scope.now) c.loop-link.tally c.args.links.now c.loop-link.link-index c.link-item.result c.expr_limits.new.tally c.loop-link-test.true c.link-item.is c.in_ok-expr_limits.ensures u r h);
      left = omega arith;
      counted = omega arith;
      of = c.in_ok-expr_limits.ensures.of _ c.loop-link.invariant.of;
    }

pub links_limits-returns : goal.links_limits-returns
links_limits-returns t c =
    c.loop-link.invariant.rest c.loop-link.tally (Ok tt) (no_operands (scope_view c.args.scope.now) c.loop-link.tally c.args.links.now c.loop-link.link-index c.loop-link-test.false)

pub direct_limits-returns-in_err-exprs_limits : goal.direct_limits-returns-in_err-exprs_limits
direct_limits-returns-in_err-exprs_limits t c =
    err_first (exprs_marks (scope_view c.args.scope.now) (c.args.tally.now.at + 1) (exprs_view c.args.arguments.now)) (called_marks c.args.place (named (scope_view c.args.scope.now) (text_bytes c.args.name.now)) (exprs_length (exprs_view c.args.arguments.now)) c.args.tally.now.at) _ c.args.tally.now _ _ c.in_err-exprs_limits.field-0.0 (search rules) c.in_err-exprs_limits.ensures

pub direct_limits-callee_limits-requires : goal.direct_limits-callee_limits-requires
direct_limits-callee_limits-requires t c =
    let of = c.in_ok-exprs_limits.ensures.of _ c.requires.of in
    record {
      of = (refl, of.1);
      numbered = subst (λ m. IsNumbered m c.meaning-callee.result) (sym of.0) c.meaning-callee.ensures.numbered;
    }

pub direct_limits-returns : goal.direct_limits-returns
direct_limits-returns t c =
    let ms = exprs_marks (scope_view c.args.scope.now) (c.args.tally.now.at + 1) (exprs_view c.args.arguments.now) in
    let ns = called_marks c.args.place (meaning_view c.meaning-callee.result) (length c.args.arguments.now) c.args.tally.now.at in
    let n = exprs_count (exprs_view c.args.arguments.now) in
    let known = ap (λ x. named (scope_view c.args.scope.now) x) (sym c.as_bytes.ensures) ∙ sym c.meaning-callee.ensures.known in
    let same_marks : ms ++ called_marks c.args.place (named (scope_view c.args.scope.now) (text_bytes c.args.name.now)) (exprs_length (exprs_view c.args.arguments.now)) c.args.tally.now.at ≡ ms ++ ns =
    ap (λ m. ms ++ called_marks c.args.place m (exprs_length (exprs_view c.args.arguments.now)) c.args.tally.now.at) known
    ∙ ap (λ k. ms ++ called_marks c.args.place (meaning_view c.meaning-callee.result) k c.args.tally.now.at) (arguments_length c.args.arguments.now) in
    let all : 1 + n ≡ 1 + (n + 0) = omega arith in
    inside _ (ms ++ ns) (1 + n) (n + 0) c.args.tally.now c.callee_limits.new.tally c.callee_limits.result same_marks all
    (then_ ms ns n 0 (entered c.args.tally.now) c.exprs_limits.new.tally c.callee_limits.new.tally c.callee_limits.result c.in_ok-exprs_limits.ensures c.callee_limits.ensures)

pub comma_limits-placed_limits-requires : goal.comma_limits-placed_limits-requires
comma_limits-placed_limits-requires t c =
    let r = c.requires.room in
    let d0 = c.decreases in
    let k = nodes_left c.args.parts.now c.loop-i.i c.index-parts-i.result c.loop-i-test.true c.index-parts-i.is in
    let left = c.loop-i.invariant.left in
    let counted = c.loop-i.invariant.counted in
    (omega arith, (c.requires.known, (c.loop-i.invariant.of, omega arith)))

pub comma_limits-returns-in_err-placed_limits : goal.comma_limits-returns-in_err-placed_limits
comma_limits-returns-in_err-placed_limits t c =
    from_err _ _ c.args.tally.now _ _ c.in_err-placed_limits.field-0.0 (search rules)
    (c.loop-i.invariant.rest c.placed_limits.new.tally (Err c.in_err-placed_limits.field-0.0) (part_ends (scope_view c.args.scope.now) c.loop-i.tally c.args.parts.now c.loop-i.i c.index-parts-i.result c.part_place.result c.loop-i-test.true c.index-parts-i.is (search rules) c.placed_limits.new.tally c.in_err-placed_limits.field-0.0 c.in_err-placed_limits.ensures))

pub comma_limits-loop-i-preserved : goal.comma_limits-loop-i-preserved
comma_limits-loop-i-preserved t c =
    let k = nodes_left c.args.parts.now c.loop-i.i c.index-parts-i.result c.loop-i-test.true c.index-parts-i.is in
    let left = c.loop-i.invariant.left in
    let counted = c.loop-i.invariant.counted in
    let n = c.in_ok-placed_limits.ensures.counted in
    record {
      rest = λ u r h. c.loop-i.invariant.rest u r (next_part (scope_view c.args.scope.now) c.loop-i.tally c.args.parts.now c.loop-i.i c.index-parts-i.result c.part_place.result c.loop-i-test.true c.index-parts-i.is (search rules) c.placed_limits.new.tally c.in_ok-placed_limits.ensures u r h);
      left = omega arith;
      counted = omega arith;
      of = c.in_ok-placed_limits.ensures.of _ c.loop-i.invariant.of;
    }

pub comma_limits-returns : goal.comma_limits-returns
comma_limits-returns t c = c.loop-i.invariant.rest c.loop-i.tally (Ok tt) (no_parts (scope_view c.args.scope.now) c.loop-i.tally c.args.parts.now c.loop-i.i c.loop-i-test.false)

pub expr_limits-returns-in-Lit : goal.expr_limits-returns-in-Lit
expr_limits-returns-in-Lit t c = leaf_any (scope_view c.args.scope.now) c.args.expr.now c.args.tally.now c.in-Lit.is

pub expr_limits-returns-in-Lit-2 : goal.expr_limits-returns-in-Lit-2
expr_limits-returns-in-Lit-2 t c = leaf_any (scope_view c.args.scope.now) c.args.expr.now c.args.tally.now c.in-Lit.is

pub expr_limits-returns-in-Lit-3 : goal.expr_limits-returns-in-Lit-3
expr_limits-returns-in-Lit-3 t c = leaf_any (scope_view c.args.scope.now) c.args.expr.now c.args.tally.now c.in-Lit.is

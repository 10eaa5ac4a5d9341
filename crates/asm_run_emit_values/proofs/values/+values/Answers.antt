-- What each function made is the code of its form.
use mir.Syntax.{w128}
use Rattle.std.proofs.lemmas.Int.{to_z-of_z}
use Rattle.std.proofs.Common.{FitsSigned, rules, length, ◌≡◌, suc, ◌-◌, ◌<◌, ◌≤◌, ◌∷◌, Some, None, OnOk, sym, ap, subst, ◌∙◌, arith}
use Rattle.sem_words.specs.Words.{word_of}
use Rattle.sem_words.specs.Lists.{text_bytes}
use Rattle.asm_lang.specs.Modules.{Expr}
use Rattle.asm_tree.specs.Views.{expr_view, exprs_view, links_view}
use Rattle.asm_run_emit_values.proofs.Shapes.{lit_is, decimal_is, var_is, index_is, assign_is, unary_is, call_is, comma_is, table_call_is, store_is, binary_is, chain_is, cond_is}
use Rattle.asm_run_code.specs.declared.op.Op.{Op}
use Rattle.asm_run_code.specs.declared.op.Op.TheVariants.{Number}
use Rattle.asm_run_names.specs.declared.callee.Callee.TheVariants as callees
use Rattle.asm_run_names.specs.declared.callee.Callee.TheVariants.{Own, Foreign, Nothing}
use Rattle.asm_run_code.specs.Names.{local, seat}
use Rattle.asm_run_code.specs.Operators.{link_operator}
use Rattle.asm_run_code.specs.Values.{into, value}
use Rattle.asm_run_names.specs.Names.{scope_said}
use Rattle.asm_run_emit_values.specs.Seats.{seat_view}
use Rattle.asm_run_emit_values.specs.Singles.{single_op}
use Rattle.asm_run_emit_values.specs.Pieces.{out_of_place, built_in}
use Rattle.asm_lang_valid.specs.declared.meaning.Builtin.{Builtin}
use Rattle.asm_run_emit_values.proofs.Turns.{arguments_begin, arguments_turn, arguments_end, links_begin, links_turn, links_end, parts_begin, parts_turn, parts_end}
use Rattle.asm_run_emit_values.proofs.Codes.{told, lit_form, decimal_form, var_form, comma_form}
use Rattle.asm_run_emit_values.proofs.Parts.{no_product, no_zeros, node_within, pair_within, first_within, operand_within}
use Rattle.asm_lang_valid.specs.Rows.{expr_count}
use Rattle.asm_run_emit_values.proofs.Made.{as_form, call_made, call_of, single_made, index_made, unary_made, zeros_made, product_made, entered, table_call_made, assign_made, bare_made, binary_made, combined_made, store_made, stays_made, moves_made, linked_made, cond_made}
use Rattle.asm_run_emit_values.proofs.values.+values.Goals as goal

pub emit_value-returns-in-Index : goal.emit_value-returns-in-Index
emit_value-returns-in-Index t c =
    as_form c.emit_index.result c.emit_index.new.output (scope_said c.args.names.now) c.args.wanted c.args.free c.args.output.now _ _ (index_is c.args.expr.now _ _ _ c.in-Index.is c.deref.ensures) c.emit_index.ensures

pub emit_value-returns-in-TableCall : goal.emit_value-returns-in-TableCall
emit_value-returns-in-TableCall t c =
    as_form c.emit_table_call.result c.emit_table_call.new.output (scope_said c.args.names.now) c.args.wanted c.args.free c.args.output.now _ _ (table_call_is c.args.expr.now _ _ _ _ _ c.in-TableCall.is c.deref-in-TableCall.ensures c.as_slice-in-TableCall.ensures) c.emit_table_call.ensures

pub emit_value-returns-in-Assign : goal.emit_value-returns-in-Assign
emit_value-returns-in-Assign t c =
    as_form c.emit_assign.result c.emit_assign.new.output (scope_said c.args.names.now) c.args.wanted c.args.free c.args.output.now _ _ (assign_is c.args.expr.now _ _ _ c.in-Assign.is c.deref-in-Assign.ensures) c.emit_assign.ensures

pub emit_value-returns-in-Store : goal.emit_value-returns-in-Store
emit_value-returns-in-Store t c =
    as_form c.emit_store.result c.emit_store.new.output (scope_said c.args.names.now) c.args.wanted c.args.free c.args.output.now _ _ (store_is c.args.expr.now _ _ _ _ _ c.in-Store.is c.deref-in-Store.ensures c.deref-in-Store-2.ensures) c.emit_store.ensures

pub emit_value-returns-in-Unary : goal.emit_value-returns-in-Unary
emit_value-returns-in-Unary t c =
    as_form c.emit_unary.result c.emit_unary.new.output (scope_said c.args.names.now) c.args.wanted c.args.free c.args.output.now _ _ (unary_is c.args.expr.now _ _ _ c.in-Unary.is c.deref-in-Unary.ensures) c.emit_unary.ensures

pub emit_value-returns-in-Binary : goal.emit_value-returns-in-Binary
emit_value-returns-in-Binary t c =
    as_form c.emit_binary.result c.emit_binary.new.output (scope_said c.args.names.now) c.args.wanted c.args.free c.args.output.now _ _ (binary_is c.args.expr.now _ _ _ _ _ c.in-Binary.is c.deref-in-Binary.ensures c.deref-in-Binary-2.ensures) c.emit_binary.ensures

pub emit_value-returns-in-Chain : goal.emit_value-returns-in-Chain
emit_value-returns-in-Chain t c =
    as_form c.emit_chain.result c.emit_chain.new.output (scope_said c.args.names.now) c.args.wanted c.args.free c.args.output.now _ _ (chain_is c.args.expr.now _ _ _ _ c.in-Chain.is c.deref-in-Chain.ensures c.as_slice-in-Chain.ensures) c.emit_chain.ensures

pub emit_value-returns-in-Cond : goal.emit_value-returns-in-Cond
emit_value-returns-in-Cond t c =
    as_form c.emit_cond.result c.emit_cond.new.output (scope_said c.args.names.now) c.args.wanted c.args.free c.args.output.now _ _ (cond_is c.args.expr.now _ _ _ _ _ _ c.in-Cond.is c.deref-in-Cond.ensures c.deref-in-Cond-2.ensures c.deref-in-Cond-3.ensures) c.emit_cond.ensures

pub emit_value-returns-in-Call : goal.emit_value-returns-in-Call
emit_value-returns-in-Call t c =
    as_form c.emit_call.result c.emit_call.new.output (scope_said c.args.names.now) c.args.wanted c.args.free c.args.output.now _ _ (call_is c.args.expr.now _ _ _ c.in-Call.is c.as_slice.ensures) (call_made c.emit_call.result c.emit_call.new.output (scope_said c.args.names.now) c.args.wanted c.args.free c.args.output.now _ _ c.emit_call.ensures)

pub emit_value-returns-in-Comma : goal.emit_value-returns-in-Comma
emit_value-returns-in-Comma t c =
    as_form c.emit_parts.result c.emit_parts.new.output (scope_said c.args.names.now) c.args.wanted c.args.free c.args.output.now _ _ (comma_is c.args.expr.now _ _ c.in-Comma.is c.as_slice-in-Comma.ensures) (told c.emit_parts.result c.emit_parts.new.output _ _ (sym (comma_form (scope_said c.args.names.now) c.args.wanted c.args.free c.args.output.now (exprs_view c.as_slice-in-Comma.result.now))) c.emit_parts.ensures)

pub emit_value-returns-in-Var : goal.emit_value-returns-in-Var
emit_value-returns-in-Var t c =
    as_form c.put_variable.result c.put_variable.new.output (scope_said c.args.names.now) c.args.wanted c.args.free c.args.output.now _ _ (var_is c.args.expr.now c.in-Var.name c.in-Var.is) (told c.put_variable.result c.put_variable.new.output _ _ (sym (var_form (scope_said c.args.names.now) c.args.wanted c.args.free c.args.output.now (text_bytes c.in-Var.name))) c.put_variable.ensures)

pub emit_value-returns-in-Decimal : goal.emit_value-returns-in-Decimal
emit_value-returns-in-Decimal t c =
    sym (ap (λ (e : Expr). value (scope_said c.args.names.now) c.args.wanted c.args.free e c.args.output.now) (decimal_is c.args.expr.now c.in-Decimal.field-0 c.in-Decimal.is) ∙ decimal_form (scope_said c.args.names.now) c.args.wanted c.args.free c.args.output.now (text_bytes c.in-Decimal.field-0))

pub emit_value-returns-in-Lit : goal.emit_value-returns-in-Lit
emit_value-returns-in-Lit t c =
    let fits : FitsSigned w128 c.in-Lit.z = search rules in
    let put = subst (λ z. OnOk c.put_number.result (c.put_number.new.output ≡ Number (into c.args.wanted c.args.free) (word_of 32 z) ∷ c.args.output.now)) (to_z-of_z w128 c.in-Lit.z fits) c.put_number.ensures in
    as_form c.put_number.result c.put_number.new.output (scope_said c.args.names.now) c.args.wanted c.args.free c.args.output.now _ _ (lit_is c.args.expr.now c.in-Lit.z c.in-Lit.is) (told c.put_number.result c.put_number.new.output _ _ (sym (lit_form (scope_said c.args.names.now) c.args.wanted c.args.free c.args.output.now c.in-Lit.z)) put)

pub emit_single-returns : goal.emit_single-returns
emit_single-returns t c =
    single_made c.emit_operand.result c.emit_operand.new.output (scope_said c.args.names.now) None c.args.free c.args.output.now (expr_view c.args.operand.now) (single_op c.args.single) c.local-place.result c.into-from.result c.put.new.self c.local-place.ensures c.into-from.ensures (c.in_ok-put.ensures ∙ ap (λ (x : Op). x ∷ c.args.output.now) c.single_op.ensures) c.emit_operand.ensures

pub emit_index-returns : goal.emit_index-returns
emit_index-returns t c =
    index_made c.emit_single.result c.emit_single.new.output (scope_said c.args.names.now) c.args.wanted c.args.free c.args.output.now (text_bytes c.args.name.now) (expr_view c.args.index.now) c.view_kind-kind.result c.into-to.result c.view_kind-kind.ensures c.into-to.ensures c.emit_single.ensures

pub emit_unary-returns : goal.emit_unary-returns
emit_unary-returns t c =
    unary_made c.emit_single.result c.emit_single.new.output (scope_said c.args.names.now) c.args.wanted c.args.free c.args.output.now c.args.op (expr_view c.args.operand.now) c.into-to.result c.into-to.ensures c.emit_single.ensures

pub emit_test-returns : goal.emit_test-returns
emit_test-returns t c = c.emit_single.ensures

pub emit_zeros-returns-in-Some : goal.emit_zeros-returns-in-Some
emit_zeros-returns-in-Some t c =
    zeros_made c.emit_single.result c.emit_single.new.output (scope_said c.args.names.now) None c.args.free c.args.output.now c.args.to c.args.all.now c.in-Some.operand.now c.in-Some.ensures.value c.emit_single.ensures

pub emit_product-returns : goal.emit_product-returns
emit_product-returns t c =
    product_made c.emit_combined.result c.emit_combined.new.output (scope_said c.args.names.now) None c.args.free c.args.output.now c.args.to c.args.all.now c.index-all-0.result c.index-all-1.result (omega arith) c.index-all-0.is c.index-all-1.is c.emit_combined.ensures

pub emit_call-returns-in_ok-put_call-in-Own : goal.emit_call-returns-in_ok-put_call-in-Own
emit_call-returns-in_ok-put_call-in-Own t c =
    call_of c.emit_arguments.result c.emit_arguments.new.output (scope_said c.args.names.now) c.args.wanted c.args.free c.args.output.now (Own c.in-Own.function) _ (exprs_view c.args.all.now) (sym c.in-Own.is ∙ c.in_ok-callee.ensures) (entered c.emit_arguments.result c.emit_arguments.new.output (scope_said c.args.names.now) c.args.wanted c.args.free c.args.output.now (exprs_view c.args.all.now) c.put_call.new.output _ c.in_ok-put_call-in-Own.ensures c.emit_arguments.ensures)

pub emit_call-returns-in_ok-put_foreign_call-in-Foreign : goal.emit_call-returns-in_ok-put_foreign_call-in-Foreign
emit_call-returns-in_ok-put_foreign_call-in-Foreign t c =
    call_of c.emit_arguments-in-Foreign.result c.emit_arguments-in-Foreign.new.output (scope_said c.args.names.now) c.args.wanted c.args.free c.args.output.now (Foreign c.in-Foreign.member) _ (exprs_view c.args.all.now) (sym c.in-Foreign.is ∙ c.in_ok-callee.ensures) (entered c.emit_arguments-in-Foreign.result c.emit_arguments-in-Foreign.new.output (scope_said c.args.names.now) c.args.wanted c.args.free c.args.output.now (exprs_view c.args.all.now) c.put_foreign_call.new.output _ c.in_ok-put_foreign_call-in-Foreign.ensures c.emit_arguments-in-Foreign.ensures)

pub emit_call-returns-in-Builtin : goal.emit_call-returns-in-Builtin
emit_call-returns-in-Builtin t c =
    call_of c.emit_builtin.result c.emit_builtin.new.output (scope_said c.args.names.now) c.args.wanted c.args.free c.args.output.now (callees.Builtin c.in-Builtin.builtin) _ (exprs_view c.args.all.now) (sym c.in-Builtin.is ∙ c.in_ok-callee.ensures) (told c.emit_builtin.result c.emit_builtin.new.output _ _ (ap (λ to. built_in (scope_said c.args.names.now) c.in-Builtin.builtin to c.args.free (exprs_view c.args.all.now) c.args.output.now) c.into.ensures) c.emit_builtin.ensures)

pub emit_call-returns-in-Nothing : goal.emit_call-returns-in-Nothing
emit_call-returns-in-Nothing t c =
    call_of c.emit_arguments-in-Nothing.result c.emit_arguments-in-Nothing.new.output (scope_said c.args.names.now) c.args.wanted c.args.free c.args.output.now Nothing _ (exprs_view c.args.all.now) (sym c.in-Nothing.is ∙ c.in_ok-callee.ensures) c.emit_arguments-in-Nothing.ensures

pub emit_table_call-returns : goal.emit_table_call-returns
emit_table_call-returns t c =
    table_call_made c.emit_value.result c.emit_value.new.output (scope_said c.args.names.now) c.args.wanted c.args.free c.args.output.now (text_bytes c.args.name.now) (expr_view c.args.index.now) (exprs_view c.args.all.now) c.in_ok-first.first c.put_entry_call.new.output c.emit_arguments.new.output c.in_ok-first.ensures.first c.in_ok-first.ensures.put c.in_ok-emit_arguments.ensures c.emit_value.ensures

pub emit_assign-returns : goal.emit_assign-returns
emit_assign-returns t c =
    assign_made c.emit_value.result c.emit_value.new.output (scope_said c.args.names.now) c.args.wanted c.args.free c.args.output.now (text_bytes c.args.name.now) (expr_view c.args.value.now) c.in_ok-to.to c.put_assign.new.output c.in_ok-to.ensures.to c.in_ok-to.ensures.put c.emit_value.ensures

pub emit_store-returns : goal.emit_store-returns
emit_store-returns t c =
    store_made c.emit_operand.result c.emit_operand.new.output (scope_said c.args.names.now) c.args.wanted c.args.free c.args.output.now (text_bytes c.args.name.now) (expr_view c.args.index.now) (expr_view c.args.value.now) (seat_view c.seat_of-seat.result) c.in_ok-place.place c.is_far.result c.put_store.new.output c.emit_next.new.output c.seat_of-seat.ensures c.in_ok-place.ensures.place c.in_ok-place.ensures.put c.is_far.ensures c.in_ok-emit_next.ensures c.emit_operand.ensures

pub emit_combined-returns : goal.emit_combined-returns
emit_combined-returns t c =
    combined_made c.emit_operand.result c.emit_operand.new.output (seat (scope_said c.args.names.now) (expr_view c.args.right.now)) (seat_view c.seat_of-seat.result) (local (scope_said c.args.names.now) (expr_view c.args.left.now)) c.args.operator c.args.to c.args.free (λ more. value (scope_said c.args.names.now) (Some c.args.free) c.args.free (expr_view c.args.left.now) more) (λ more. value (scope_said c.args.names.now) (Some (suc c.args.free)) (suc c.args.free) (expr_view c.args.right.now) more) c.args.output.now c.place_before-place.result c.into-at.result c.is_elsewhere.result c.put_applied.new.output c.emit_next.new.output c.seat_of-seat.ensures c.place_before-place.ensures c.into-at.ensures c.in_ok-put_applied.ensures c.is_elsewhere.ensures c.in_ok-emit_next.ensures c.emit_operand.ensures

pub emit_link-returns : goal.emit_link-returns
emit_link-returns t c =
    linked_made c.emit_next.result c.emit_next.new.output (seat (scope_said c.args.names.now) (expr_view c.args.link.now.operand)) (seat_view c.seat_of-seat.result) (link_operator c.args.link.now.minus) c.link_operator-operator.result c.args.to c.args.left c.args.free (λ more. value (scope_said c.args.names.now) (Some (suc c.args.free)) (suc c.args.free) (expr_view c.args.link.now.operand) more) c.args.output.now c.is_elsewhere.result c.put_applied.new.output c.seat_of-seat.ensures c.link_operator-operator.ensures c.in_ok-put_applied.ensures c.is_elsewhere.ensures c.emit_next.ensures

pub emit_cond-returns : goal.emit_cond-returns
emit_cond-returns t c =
    cond_made c.emit_test.result c.emit_test.new.output (scope_said c.args.names.now) c.args.wanted c.args.free c.args.output.now (expr_view c.args.condition.now) (expr_view c.args.yes.now) (expr_view c.args.no.now) c.address-past.result c.in_ok-at.at c.emit_value.new.output c.put_go.new.output c.emit_value-2.new.output c.address-past.ensures c.in_ok-emit_value.ensures c.in_ok-at.ensures.at c.in_ok-at.ensures.put c.in_ok-emit_value-2.ensures c.emit_test.ensures

pub emit_binary-returns-then-bare : goal.emit_binary-returns-then-bare
emit_binary-returns-then-bare t c =
    bare_made c.emit_value.result c.emit_value.new.output (scope_said c.args.names.now) c.args.wanted c.args.free c.args.output.now c.args.op (expr_view c.args.left.now) (expr_view c.args.right.now) (sym c.if-bare.true ∙ c.is_or_zero-bare.ensures) c.emit_value.ensures

pub emit_binary-returns : goal.emit_binary-returns
emit_binary-returns t c =
    binary_made c.emit_combined.result c.emit_combined.new.output (scope_said c.args.names.now) c.args.wanted c.args.free c.args.output.now c.args.op (expr_view c.args.left.now) (expr_view c.args.right.now) c.operator_of-operator.result c.into-to.result (sym c.if-bare.false ∙ c.is_or_zero-bare.ensures) c.operator_of-operator.ensures c.into-to.ensures c.emit_combined.ensures

pub emit_chain-returns-in-Some : goal.emit_chain-returns-in-Some
emit_chain-returns-in-Some t c =
    stays_made c.emit_links.result c.emit_links.new.output (scope_said c.args.names.now) c.args.wanted c.args.free c.args.output.now (expr_view c.args.first.now) (links_view c.args.links.now) c.in-Some.slot (sym c.in-Some.is ∙ c.stays-place.ensures) c.emit_links.ensures

pub emit_chain-returns-in_ok-emit_links-in-None : goal.emit_chain-returns-in_ok-emit_links-in-None
emit_chain-returns-in_ok-emit_links-in-None t c =
    moves_made c.emit_value.result c.emit_value.new.output (scope_said c.args.names.now) c.args.wanted c.args.free c.args.output.now (expr_view c.args.first.now) (links_view c.args.links.now) c.sum_slot-to.result c.emit_links-in-None.new.output (sym c.in-None.is ∙ c.stays-place.ensures) c.in_ok-emit_links-in-None.ensures c.sum_slot-to.ensures c.emit_value.ensures

pub emit_arguments-loop-i-init : goal.emit_arguments-loop-i-init
emit_arguments-loop-i-init t c = record { within = omega arith; made = arguments_begin (scope_said c.args.names.now) c.args.output.now c.args.free c.args.all.now }

pub emit_arguments-loop-i-preserved : goal.emit_arguments-loop-i-preserved
emit_arguments-loop-i-preserved t c = record {
  within = omega arith;
  made = arguments_turn (scope_said c.args.names.now) c.args.output.now c.args.free c.args.all.now c.loop-i.output c.emit_value.new.output (c.loop-i.i - 1) c.loop-i.i c.in_ok-slot.slot c.index-all-i.result (omega arith) (omega arith) c.index-all-i.is c.in_ok-slot.ensures c.loop-i.invariant.made c.in_ok-emit_value.ensures;
}

pub emit_arguments-returns : goal.emit_arguments-returns
emit_arguments-returns t c = arguments_end (scope_said c.args.names.now) c.args.output.now c.args.free c.args.all.now c.loop-i.output c.loop-i.i (omega arith) c.loop-i.invariant.made

pub emit_links-loop-i-init : goal.emit_links-loop-i-init
emit_links-loop-i-init t c = record { within = omega arith; made = links_begin (scope_said c.args.names.now) c.args.wanted c.args.free c.args.output.now c.args.slot c.args.links.now }

pub emit_links-loop-i-preserved : goal.emit_links-loop-i-preserved
emit_links-loop-i-preserved t c = record {
  within = omega arith;
  made = links_turn (scope_said c.args.names.now) c.args.wanted c.args.free c.args.output.now c.args.slot c.args.links.now c.loop-i.output c.emit_link.new.output (c.loop-i.i - 1) c.loop-i.i c.sum_slot-to.result c.sum_before-left.result c.index-links-i.result (omega arith) (omega arith) c.index-links-i.is c.sum_slot-to.ensures c.sum_before-left.ensures c.loop-i.invariant.made c.in_ok-emit_link.ensures;
}

pub emit_links-returns : goal.emit_links-returns
emit_links-returns t c = links_end (scope_said c.args.names.now) c.args.wanted c.args.free c.args.output.now c.args.slot c.args.links.now c.loop-i.output c.loop-i.i (omega arith) c.loop-i.invariant.made

pub emit_parts-loop-i-init : goal.emit_parts-loop-i-init
emit_parts-loop-i-init t c = record { within = omega arith; made = parts_begin (scope_said c.args.names.now) c.args.wanted c.args.free c.args.output.now c.args.parts.now }

pub emit_parts-loop-i-preserved : goal.emit_parts-loop-i-preserved
emit_parts-loop-i-preserved t c = record {
  within = omega arith;
  made = parts_turn (scope_said c.args.names.now) c.args.wanted c.args.free c.args.output.now c.args.parts.now c.loop-i.output c.emit_value.new.output (c.loop-i.i - 1) c.loop-i.i c.part_wanted-to.result c.index-parts-i.result (omega arith) (omega arith) c.index-parts-i.is c.part_wanted-to.ensures c.loop-i.invariant.made c.in_ok-emit_value.ensures;
}

pub emit_parts-returns : goal.emit_parts-returns
emit_parts-returns t c = parts_end (scope_said c.args.names.now) c.args.wanted c.args.free c.args.output.now c.args.parts.now c.loop-i.output c.loop-i.i (omega arith) c.loop-i.invariant.made

pub emit_value-emit_index-requires : goal.emit_value-emit_index-requires
emit_value-emit_index-requires t c =
    let d0 = c.decreases in
    let k = ap expr_count (index_is c.args.expr.now _ _ _ c.in-Index.is c.deref.ensures) in
    (omega arith, tt)

pub emit_value-emit_table_call-requires : goal.emit_value-emit_table_call-requires
emit_value-emit_table_call-requires t c =
    let d0 = c.decreases in
    let k = ap expr_count (table_call_is c.args.expr.now _ _ _ _ _ c.in-TableCall.is c.deref-in-TableCall.ensures c.as_slice-in-TableCall.ensures) in
    (omega arith, tt)

pub emit_value-emit_assign-requires : goal.emit_value-emit_assign-requires
emit_value-emit_assign-requires t c =
    let d0 = c.decreases in
    let k = ap expr_count (assign_is c.args.expr.now _ _ _ c.in-Assign.is c.deref-in-Assign.ensures) in
    (omega arith, tt)

pub emit_value-emit_store-requires : goal.emit_value-emit_store-requires
emit_value-emit_store-requires t c =
    let d0 = c.decreases in
    let k = ap expr_count (store_is c.args.expr.now _ _ _ _ _ c.in-Store.is c.deref-in-Store.ensures c.deref-in-Store-2.ensures) in
    (omega arith, tt)

pub emit_value-emit_unary-requires : goal.emit_value-emit_unary-requires
emit_value-emit_unary-requires t c =
    let d0 = c.decreases in
    let k = ap expr_count (unary_is c.args.expr.now _ _ _ c.in-Unary.is c.deref-in-Unary.ensures) in
    (omega arith, tt)

pub emit_value-emit_binary-requires : goal.emit_value-emit_binary-requires
emit_value-emit_binary-requires t c =
    let d0 = c.decreases in
    let k = ap expr_count (binary_is c.args.expr.now _ _ _ _ _ c.in-Binary.is c.deref-in-Binary.ensures c.deref-in-Binary-2.ensures) in
    (omega arith, tt)

pub emit_value-emit_chain-requires : goal.emit_value-emit_chain-requires
emit_value-emit_chain-requires t c =
    let d0 = c.decreases in
    let k = ap expr_count (chain_is c.args.expr.now _ _ _ _ c.in-Chain.is c.deref-in-Chain.ensures c.as_slice-in-Chain.ensures) in
    (omega arith, tt)

pub emit_value-emit_cond-requires : goal.emit_value-emit_cond-requires
emit_value-emit_cond-requires t c =
    let d0 = c.decreases in
    let k = ap expr_count (cond_is c.args.expr.now _ _ _ _ _ _ c.in-Cond.is c.deref-in-Cond.ensures c.deref-in-Cond-2.ensures c.deref-in-Cond-3.ensures) in
    (omega arith, tt)

pub emit_value-emit_call-requires : goal.emit_value-emit_call-requires
emit_value-emit_call-requires t c =
    let d0 = c.decreases in
    let k = ap expr_count (call_is c.args.expr.now _ _ _ c.in-Call.is c.as_slice.ensures) in
    (omega arith, tt)

pub emit_value-emit_parts-requires : goal.emit_value-emit_parts-requires
emit_value-emit_parts-requires t c =
    let d0 = c.decreases in
    let k = ap expr_count (comma_is c.args.expr.now _ _ c.in-Comma.is c.as_slice-in-Comma.ensures) in
    (omega arith, tt)

pub emit_assign-emit_value-requires : goal.emit_assign-emit_value-requires
emit_assign-emit_value-requires t c =
    let d0 = c.decreases in
    (omega arith, tt)

pub emit_store-emit_next-requires : goal.emit_store-emit_next-requires
emit_store-emit_next-requires t c =
    let d0 = c.decreases in
    (omega arith, tt)

pub emit_store-emit_operand-requires : goal.emit_store-emit_operand-requires
emit_store-emit_operand-requires t c =
    let d0 = c.decreases in
    (omega arith, tt)

pub emit_combined-emit_next-requires : goal.emit_combined-emit_next-requires
emit_combined-emit_next-requires t c =
    let d0 = c.decreases in
    (omega arith, tt)

pub emit_combined-emit_operand-requires : goal.emit_combined-emit_operand-requires
emit_combined-emit_operand-requires t c =
    let d0 = c.decreases in
    (omega arith, tt)

pub emit_link-emit_next-requires : goal.emit_link-emit_next-requires
emit_link-emit_next-requires t c =
    let d0 = c.decreases in
    (omega arith, tt)

pub emit_next-emit_value-requires : goal.emit_next-emit_value-requires
emit_next-emit_value-requires t c =
    let d0 = c.decreases in
    (omega arith, tt)

pub emit_binary-emit_value-requires : goal.emit_binary-emit_value-requires
emit_binary-emit_value-requires t c =
    let d0 = c.decreases in
    (omega arith, tt)

pub emit_binary-emit_combined-requires : goal.emit_binary-emit_combined-requires
emit_binary-emit_combined-requires t c =
    let d0 = c.decreases in
    (omega arith, tt)

pub emit_builtin-emit_product-requires : goal.emit_builtin-emit_product-requires
emit_builtin-emit_product-requires t c =
    let d0 = c.decreases in
    (omega arith, tt)

pub emit_builtin-emit_zeros-requires : goal.emit_builtin-emit_zeros-requires
emit_builtin-emit_zeros-requires t c =
    let d0 = c.decreases in
    (omega arith, tt)

pub emit_chain-emit_links-requires : goal.emit_chain-emit_links-requires
emit_chain-emit_links-requires t c =
    let d0 = c.decreases in
    (omega arith, tt)

pub emit_chain-emit_links-requires-in-None : goal.emit_chain-emit_links-requires-in-None
emit_chain-emit_links-requires-in-None t c =
    let d0 = c.decreases in
    (omega arith, tt)

pub emit_chain-emit_value-requires : goal.emit_chain-emit_value-requires
emit_chain-emit_value-requires t c =
    let d0 = c.decreases in
    (omega arith, tt)

pub emit_cond-emit_value-requires : goal.emit_cond-emit_value-requires
emit_cond-emit_value-requires t c =
    let d0 = c.decreases in
    (omega arith, tt)

pub emit_cond-emit_value-requires-2 : goal.emit_cond-emit_value-requires-2
emit_cond-emit_value-requires-2 t c =
    let d0 = c.decreases in
    (omega arith, tt)

pub emit_cond-emit_test-requires : goal.emit_cond-emit_test-requires
emit_cond-emit_test-requires t c =
    let d0 = c.decreases in
    (omega arith, tt)

pub emit_operand-emit_value-requires : goal.emit_operand-emit_value-requires
emit_operand-emit_value-requires t c =
    let d0 = c.decreases in
    (omega arith, tt)

pub emit_table_call-emit_arguments-requires : goal.emit_table_call-emit_arguments-requires
emit_table_call-emit_arguments-requires t c =
    let d0 = c.decreases in
    (omega arith, tt)

pub emit_table_call-emit_value-requires : goal.emit_table_call-emit_value-requires
emit_table_call-emit_value-requires t c =
    let d0 = c.decreases in
    (omega arith, tt)

pub emit_single-emit_operand-requires : goal.emit_single-emit_operand-requires
emit_single-emit_operand-requires t c =
    let d0 = c.decreases in
    (omega arith, tt)

pub emit_test-emit_single-requires : goal.emit_test-emit_single-requires
emit_test-emit_single-requires t c =
    let d0 = c.decreases in
    (omega arith, tt)

pub emit_unary-emit_single-requires : goal.emit_unary-emit_single-requires
emit_unary-emit_single-requires t c =
    let d0 = c.decreases in
    (omega arith, tt)

pub emit_index-emit_single-requires : goal.emit_index-emit_single-requires
emit_index-emit_single-requires t c =
    let d0 = c.decreases in
    (omega arith, tt)

pub emit_call-emit_builtin-requires : goal.emit_call-emit_builtin-requires
emit_call-emit_builtin-requires t c =
    let d0 = c.decreases in
    (omega arith, tt)

pub emit_call-emit_arguments-requires : goal.emit_call-emit_arguments-requires
emit_call-emit_arguments-requires t c =
    let d0 = c.decreases in
    (omega arith, tt)

pub emit_call-emit_arguments-requires-in-Foreign : goal.emit_call-emit_arguments-requires-in-Foreign
emit_call-emit_arguments-requires-in-Foreign t c =
    let d0 = c.decreases in
    (omega arith, tt)

pub emit_call-emit_arguments-requires-in-Nothing : goal.emit_call-emit_arguments-requires-in-Nothing
emit_call-emit_arguments-requires-in-Nothing t c =
    let d0 = c.decreases in
    (omega arith, tt)

pub emit_zeros-emit_single-requires : goal.emit_zeros-emit_single-requires
emit_zeros-emit_single-requires t c =
    let d0 = c.decreases in
    let k = first_within c.args.all.now c.in-Some.operand.now c.in-Some.ensures.value in
    (omega arith, tt)

pub emit_product-emit_combined-requires : goal.emit_product-emit_combined-requires
emit_product-emit_combined-requires t c =
    let d0 = c.decreases in
    let two : 2 ≤ length c.args.all.now = omega arith in
    let k = pair_within c.args.all.now c.index-all-0.result c.index-all-1.result two c.index-all-0.is c.index-all-1.is in
    (omega arith, tt)

pub emit_arguments-emit_value-requires : goal.emit_arguments-emit_value-requires
emit_arguments-emit_value-requires t c =
    let d0 = c.decreases in
    let within : c.loop-i.i - 1 < length c.args.all.now = omega arith in
    let k = node_within c.args.all.now (c.loop-i.i - 1) c.index-all-i.result within c.index-all-i.is in
    (omega arith, tt)

pub emit_links-emit_link-requires : goal.emit_links-emit_link-requires
emit_links-emit_link-requires t c =
    let d0 = c.decreases in
    let within : c.loop-i.i - 1 < length c.args.links.now = omega arith in
    let k = operand_within c.args.links.now (c.loop-i.i - 1) c.index-links-i.result within c.index-links-i.is in
    (omega arith, tt)

pub emit_parts-emit_value-requires : goal.emit_parts-emit_value-requires
emit_parts-emit_value-requires t c =
    let d0 = c.decreases in
    let within : c.loop-i.i - 1 < length c.args.parts.now = omega arith in
    let k = node_within c.args.parts.now (c.loop-i.i - 1) c.index-parts-i.result within c.index-parts-i.is in
    (omega arith, tt)

pub emit_operand-returns-in-Some : goal.emit_operand-returns-in-Some
emit_operand-returns-in-Some t c =
    ap (λ p. out_of_place p (λ more. value (scope_said c.args.names.now) (Some c.args.free) c.args.free (expr_view c.args.operand.now) more) c.args.output.now) (sym c.in-Some.is)

pub emit_operand-returns-in-None : goal.emit_operand-returns-in-None
emit_operand-returns-in-None t c =
    told c.emit_value.result c.emit_value.new.output _ _ (ap (λ p. out_of_place p (λ more. value (scope_said c.args.names.now) (Some c.args.free) c.args.free (expr_view c.args.operand.now) more) c.args.output.now) (sym c.in-None.is)) c.emit_value.ensures

pub emit_builtin-returns-in-Imul : goal.emit_builtin-returns-in-Imul
emit_builtin-returns-in-Imul t c =
    told c.emit_product.result c.emit_product.new.output _ _ (ap (λ (b : Builtin). built_in (scope_said c.args.names.now) b c.args.to c.args.free (exprs_view c.args.all.now) c.args.output.now) (sym c.in-Imul.is)) c.emit_product.ensures

pub emit_builtin-returns-in-Clz32 : goal.emit_builtin-returns-in-Clz32
emit_builtin-returns-in-Clz32 t c =
    told c.emit_zeros.result c.emit_zeros.new.output _ _ (ap (λ (b : Builtin). built_in (scope_said c.args.names.now) b c.args.to c.args.free (exprs_view c.args.all.now) c.args.output.now) (sym c.in-Clz32.is)) c.emit_zeros.ensures

pub emit_product-returns-then-all-lt2 : goal.emit_product-returns-then-all-lt2
emit_product-returns-then-all-lt2 t c =
    no_product (scope_said c.args.names.now) c.args.output.now c.args.to c.args.free c.args.all.now (omega arith)

pub emit_zeros-returns-in-None : goal.emit_zeros-returns-in-None
emit_zeros-returns-in-None t c =
    no_zeros (scope_said c.args.names.now) c.args.output.now c.args.to c.args.free c.args.all.now c.in-None.ensures.value

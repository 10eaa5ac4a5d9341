-- What the calls require, and what is given: the code of the parts, one after another.
use mir.Syntax.{w128}
use Rattle.std.proofs.lemmas.Int.{to_z-of_z}
use Rattle.std.proofs.Common.{FitsSigned, rules, ◌≡◌, suc, ◌+◌, ◌-◌, ◌^◌, ◌<◌, true, false, Some, ◌++◌, length, drop, get_or, OnOk, add-one, sym, ap, subst, ◌∙◌, refl, arith}
use Rattle.std.specs.Prelude.{◌||◌, if◌then◌else◌}
use Rattle.sem_words.specs.Words.{word_of}
use Rattle.sem_words.specs.Lists.{text_bytes}
use Rattle.wasm_lang.specs.Instructions.{local_get, local_set, bin32}
use Rattle.wasm_lang.specs.declared.types.ValType.TheVariants.{I32}
use Rattle.wasm_lang_exec.specs.Code.{Trees, ε, ◌▹◌, ◌⊕◌, if_block}
use Rattle.wasm_laws_trees.specs.Spelled.{flat}
use Rattle.wasm_laws_write.specs.Lengths.{IsNarrow}
use Rattle.wasm_laws_write.specs.Each.{EachIn}
use Rattle.asm_tree.specs.Views.{expr_view, exprs_view, links_view}
use Rattle.asm_lang_valid.specs.Rows.{expr_count}
use Rattle.asm_lang_valid.specs.Typing.{named, or_zero, exprs_length}
use Rattle.asm_validate_limits.proofs.Shapes.{lit_is, decimal_is, var_is, index_is, assign_is, unary_is, call_is, comma_is, table_call_is, store_is, binary_is, chain_is, cond_is}
use Rattle.asm_validate_limits.proofs.Parts.{arguments_length, nodes_left, operands_left}
use Rattle.asm2wasm_translation.specs.Numbers.{place_of, base_of}
use Rattle.asm2wasm_translation.specs.Values.{one, plains, number, link_operator, finished, put_code, before_operand, after_operand, operator, is_unsigned, exponent_in, aligned, load_code, store_code, stored_code, callee_code, dropped, from_base, entry_code, scratch, expr_code, arguments_code, links_code, comma_code}
use Rattle.asm2wasm_emit_pieces.proofs.Joined.{joined}
use Rattle.asm2wasm_emit_pieces.proofs.Parts.{first_part, second_part}
use Rattle.asm2wasm_emit_pieces.proofs.Endings.{arms}
use Rattle.asm2wasm_emit_values.specs.Contexts.{scope_in}
use Rattle.asm2wasm_emit_values.specs.Indices.{index_code}
use Rattle.asm2wasm_emit_values.proofs.Steps.{on_ok, given, told, value_part, finished_last, joined_last, left_part, front_part, as_pair}
use Rattle.asm2wasm_emit_values.proofs.Indices.{shifted_code, shifted_part}
use Rattle.asm2wasm_emit_values.proofs.Lists.{one_more, none_left, here_narrow, left_narrow, arguments, operands, parts, argument_left, no_argument, operand_left, no_operand, part_left, last_part}
use Rattle.asm2wasm_emit_values.proofs.expressions.+expressions.Goals as goal

pub emit-emit_index-requires : goal.emit-emit_index-requires
emit-emit_index-requires t c =
    let e = index_is c.args.expr.now _ _ _ c.in-Index.is c.deref.ensures in
    let k = ap expr_count e in
    let d0 = c.decreases in
    (omega arith, given c.args.context.now.size (scope_in c.args.context.now) c.args.wanted c.args.depth _ _ e c.requires.narrow)

pub emit-returns-in-Index : goal.emit-returns-in-Index
emit-returns-in-Index t c =
    let e = index_is c.args.expr.now _ _ _ c.in-Index.is c.deref.ensures in
    told c.args.context.now.size (scope_in c.args.context.now) c.args.wanted c.args.depth _ _ e c.emit_index.result c.args.output.now c.emit_index.new.output c.emit_index.ensures

pub emit-emit_call-requires : goal.emit-emit_call-requires
emit-emit_call-requires t c =
    let e = call_is c.args.expr.now _ _ _ c.in-Call.is c.as_slice.ensures in
    let k = ap expr_count e in
    let d0 = c.decreases in
    (omega arith, given c.args.context.now.size (scope_in c.args.context.now) c.args.wanted c.args.depth _ _ e c.requires.narrow)

pub emit-returns-in-Call : goal.emit-returns-in-Call
emit-returns-in-Call t c =
    let e = call_is c.args.expr.now _ _ _ c.in-Call.is c.as_slice.ensures in
    told c.args.context.now.size (scope_in c.args.context.now) c.args.wanted c.args.depth _ _ e c.emit_call.result c.args.output.now c.emit_call.new.output c.emit_call.ensures

pub emit-emit_table_call-requires : goal.emit-emit_table_call-requires
emit-emit_table_call-requires t c =
    let e = table_call_is c.args.expr.now _ _ _ _ _ c.in-TableCall.is c.deref-in-TableCall.ensures c.as_slice-in-TableCall.ensures in
    let k = ap expr_count e in
    let d0 = c.decreases in
    (omega arith, given c.args.context.now.size (scope_in c.args.context.now) c.args.wanted c.args.depth _ _ e c.requires.narrow)

pub emit-returns-in-TableCall : goal.emit-returns-in-TableCall
emit-returns-in-TableCall t c =
    let e = table_call_is c.args.expr.now _ _ _ _ _ c.in-TableCall.is c.deref-in-TableCall.ensures c.as_slice-in-TableCall.ensures in
    told c.args.context.now.size (scope_in c.args.context.now) c.args.wanted c.args.depth _ _ e c.emit_table_call.result c.args.output.now c.emit_table_call.new.output c.emit_table_call.ensures

pub emit-emit_store-requires : goal.emit-emit_store-requires
emit-emit_store-requires t c =
    let e = store_is c.args.expr.now _ _ _ _ _ c.in-Store.is c.deref-in-Store.ensures c.deref-in-Store-2.ensures in
    let k = ap expr_count e in
    let d0 = c.decreases in
    (omega arith, given c.args.context.now.size (scope_in c.args.context.now) c.args.wanted c.args.depth _ _ e c.requires.narrow)

pub emit-returns-in-Store : goal.emit-returns-in-Store
emit-returns-in-Store t c =
    let e = store_is c.args.expr.now _ _ _ _ _ c.in-Store.is c.deref-in-Store.ensures c.deref-in-Store-2.ensures in
    told c.args.context.now.size (scope_in c.args.context.now) c.args.wanted c.args.depth _ _ e c.emit_store.result c.args.output.now c.emit_store.new.output c.emit_store.ensures

pub emit-emit_unary-requires : goal.emit-emit_unary-requires
emit-emit_unary-requires t c =
    let e = unary_is c.args.expr.now _ _ _ c.in-Unary.is c.deref-in-Unary.ensures in
    let k = ap expr_count e in
    let d0 = c.decreases in
    (omega arith, given c.args.context.now.size (scope_in c.args.context.now) c.args.wanted c.args.depth _ _ e c.requires.narrow)

pub emit-returns-in-Unary : goal.emit-returns-in-Unary
emit-returns-in-Unary t c =
    let e = unary_is c.args.expr.now _ _ _ c.in-Unary.is c.deref-in-Unary.ensures in
    told c.args.context.now.size (scope_in c.args.context.now) c.args.wanted c.args.depth _ _ e c.emit_unary.result c.args.output.now c.emit_unary.new.output c.emit_unary.ensures

pub emit-emit_binary-requires : goal.emit-emit_binary-requires
emit-emit_binary-requires t c =
    let e = binary_is c.args.expr.now _ _ _ _ _ c.in-Binary.is c.deref-in-Binary.ensures c.deref-in-Binary-2.ensures in
    let k = ap expr_count e in
    let d0 = c.decreases in
    (omega arith, given c.args.context.now.size (scope_in c.args.context.now) c.args.wanted c.args.depth _ _ e c.requires.narrow)

pub emit-returns-in-Binary : goal.emit-returns-in-Binary
emit-returns-in-Binary t c =
    let e = binary_is c.args.expr.now _ _ _ _ _ c.in-Binary.is c.deref-in-Binary.ensures c.deref-in-Binary-2.ensures in
    told c.args.context.now.size (scope_in c.args.context.now) c.args.wanted c.args.depth _ _ e c.emit_binary.result c.args.output.now c.emit_binary.new.output c.emit_binary.ensures

pub emit-emit_chain-requires : goal.emit-emit_chain-requires
emit-emit_chain-requires t c =
    let e = chain_is c.args.expr.now _ _ _ _ c.in-Chain.is c.deref-in-Chain.ensures c.as_slice-in-Chain.ensures in
    let k = ap expr_count e in
    let d0 = c.decreases in
    (omega arith, given c.args.context.now.size (scope_in c.args.context.now) c.args.wanted c.args.depth _ _ e c.requires.narrow)

pub emit-returns-in-Chain : goal.emit-returns-in-Chain
emit-returns-in-Chain t c =
    let e = chain_is c.args.expr.now _ _ _ _ c.in-Chain.is c.deref-in-Chain.ensures c.as_slice-in-Chain.ensures in
    told c.args.context.now.size (scope_in c.args.context.now) c.args.wanted c.args.depth _ _ e c.emit_chain.result c.args.output.now c.emit_chain.new.output c.emit_chain.ensures

pub emit-emit_cond-requires : goal.emit-emit_cond-requires
emit-emit_cond-requires t c =
    let e = cond_is c.args.expr.now _ _ _ _ _ _ c.in-Cond.is c.deref-in-Cond.ensures c.deref-in-Cond-2.ensures c.deref-in-Cond-3.ensures in
    let k = ap expr_count e in
    let d0 = c.decreases in
    (omega arith, given c.args.context.now.size (scope_in c.args.context.now) c.args.wanted c.args.depth _ _ e c.requires.narrow)

pub emit-returns-in-Cond : goal.emit-returns-in-Cond
emit-returns-in-Cond t c =
    let e = cond_is c.args.expr.now _ _ _ _ _ _ c.in-Cond.is c.deref-in-Cond.ensures c.deref-in-Cond-2.ensures c.deref-in-Cond-3.ensures in
    told c.args.context.now.size (scope_in c.args.context.now) c.args.wanted c.args.depth _ _ e c.emit_cond.result c.args.output.now c.emit_cond.new.output c.emit_cond.ensures

pub emit-emit_comma-requires : goal.emit-emit_comma-requires
emit-emit_comma-requires t c =
    let e = comma_is c.args.expr.now _ _ c.in-Comma.is c.as_slice-in-Comma.ensures in
    let k = ap expr_count e in
    let d0 = c.decreases in
    (omega arith, given c.args.context.now.size (scope_in c.args.context.now) c.args.wanted c.args.depth _ _ e c.requires.narrow)

pub emit-returns-in-Comma : goal.emit-returns-in-Comma
emit-returns-in-Comma t c =
    let e = comma_is c.args.expr.now _ _ c.in-Comma.is c.as_slice-in-Comma.ensures in
    told c.args.context.now.size (scope_in c.args.context.now) c.args.wanted c.args.depth _ _ e c.emit_comma.result c.args.output.now c.emit_comma.new.output c.emit_comma.ensures

pub emit-emit-requires : goal.emit-emit-requires
emit-emit-requires t c =
    let e = assign_is c.args.expr.now _ _ _ c.in-Assign.is c.deref-in-Assign.ensures in
    let k = ap expr_count e in
    let d0 = c.decreases in
    (omega arith, first_part IsNarrow (expr_code c.args.context.now.size (scope_in c.args.context.now) true c.args.depth (expr_view c.deref-in-Assign.result.now)) (put_code c.args.wanted (place_of (scope_in c.args.context.now) (text_bytes c.in-Assign.name))) (given c.args.context.now.size (scope_in c.args.context.now) c.args.wanted c.args.depth _ _ e c.requires.narrow))

pub emit-put-requires : goal.emit-put-requires
emit-put-requires t c =
    let e = assign_is c.args.expr.now _ _ _ c.in-Assign.is c.deref-in-Assign.ensures in
    record { narrow = second_part IsNarrow (expr_code c.args.context.now.size (scope_in c.args.context.now) true c.args.depth (expr_view c.deref-in-Assign.result.now)) (put_code c.args.wanted (place_of (scope_in c.args.context.now) (text_bytes c.in-Assign.name))) (given c.args.context.now.size (scope_in c.args.context.now) c.args.wanted c.args.depth _ _ e c.requires.narrow) }

pub emit-returns-in_ok-emit-in-Assign : goal.emit-returns-in_ok-emit-in-Assign
emit-returns-in_ok-emit-in-Assign t c =
    let e = assign_is c.args.expr.now _ _ _ c.in-Assign.is c.deref-in-Assign.ensures in
    told c.args.context.now.size (scope_in c.args.context.now) c.args.wanted c.args.depth _ _ e c.put.result c.args.output.now c.put.new.output (joined_last c.put.result c.args.output.now c.emit.new.output c.put.new.output (expr_code c.args.context.now.size (scope_in c.args.context.now) true c.args.depth (expr_view c.deref-in-Assign.result.now)) (put_code c.args.wanted (place_of (scope_in c.args.context.now) (text_bytes c.in-Assign.name))) c.in_ok-emit-in-Assign.ensures c.put.ensures)

pub emit-emit_variable-requires : goal.emit-emit_variable-requires
emit-emit_variable-requires t c =
    record { narrow = given c.args.context.now.size (scope_in c.args.context.now) c.args.wanted c.args.depth _ _ (var_is c.args.expr.now c.in-Var.name c.in-Var.is) c.requires.narrow }

pub emit-returns-in-Var : goal.emit-returns-in-Var
emit-returns-in-Var t c =
    told c.args.context.now.size (scope_in c.args.context.now) c.args.wanted c.args.depth _ _ (var_is c.args.expr.now c.in-Var.name c.in-Var.is) c.emit_variable.result c.args.output.now c.emit_variable.new.output c.emit_variable.ensures

pub emit-returns-in-Decimal : goal.emit-returns-in-Decimal
emit-returns-in-Decimal t c =
    told c.args.context.now.size (scope_in c.args.context.now) c.args.wanted c.args.depth _ _ (decimal_is c.args.expr.now c.in-Decimal.field-0 c.in-Decimal.is) c.emit_decimal.result c.args.output.now c.emit_decimal.new.output c.emit_decimal.ensures

pub emit-returns-in-Lit : goal.emit-returns-in-Lit
emit-returns-in-Lit t c =
    let fits : FitsSigned w128 c.in-Lit.value = search rules in
    let emitted = subst (λ z. OnOk c.emit_literal.result (c.emit_literal.new.output ≡ c.args.output.now ++ flat (finished c.args.wanted (one (number (word_of 32 z)))))) (to_z-of_z w128 c.in-Lit.value fits) c.emit_literal.ensures in
    told c.args.context.now.size (scope_in c.args.context.now) c.args.wanted c.args.depth _ _ (lit_is c.args.expr.now c.in-Lit.value c.in-Lit.is) c.emit_literal.result c.args.output.now c.emit_literal.new.output emitted

pub emit_index-emit_place-requires : goal.emit_index-emit_place-requires
emit_index-emit_place-requires t c =
    let d0 = c.decreases in
    (omega arith, first_part IsNarrow (index_code c.args.context.now.size (scope_in c.args.context.now) c.args.depth (text_bytes c.args.name.now) (expr_view c.args.index.now)) (load_code c.args.context.now.size (scratch c.args.context.now.size (scope_in c.args.context.now) c.args.depth) (named (scope_in c.args.context.now) (text_bytes c.args.name.now))) (value_part c.args.wanted ((index_code c.args.context.now.size (scope_in c.args.context.now) c.args.depth (text_bytes c.args.name.now) (expr_view c.args.index.now)) ⊕ (load_code c.args.context.now.size (scratch c.args.context.now.size (scope_in c.args.context.now) c.args.depth) (named (scope_in c.args.context.now) (text_bytes c.args.name.now)))) c.requires.narrow))

pub emit_index-load_element-requires : goal.emit_index-load_element-requires
emit_index-load_element-requires t c =
    record { narrow = second_part IsNarrow (index_code c.args.context.now.size (scope_in c.args.context.now) c.args.depth (text_bytes c.args.name.now) (expr_view c.args.index.now)) (load_code c.args.context.now.size (scratch c.args.context.now.size (scope_in c.args.context.now) c.args.depth) (named (scope_in c.args.context.now) (text_bytes c.args.name.now))) (value_part c.args.wanted ((index_code c.args.context.now.size (scope_in c.args.context.now) c.args.depth (text_bytes c.args.name.now) (expr_view c.args.index.now)) ⊕ (load_code c.args.context.now.size (scratch c.args.context.now.size (scope_in c.args.context.now) c.args.depth) (named (scope_in c.args.context.now) (text_bytes c.args.name.now)))) c.requires.narrow) }

pub emit_index-returns : goal.emit_index-returns
emit_index-returns t c =
    finished_last c.finish.result c.args.wanted c.args.output.now c.load_element.new.output c.finish.new.output ((index_code c.args.context.now.size (scope_in c.args.context.now) c.args.depth (text_bytes c.args.name.now) (expr_view c.args.index.now)) ⊕ (load_code c.args.context.now.size (scratch c.args.context.now.size (scope_in c.args.context.now) c.args.depth) (named (scope_in c.args.context.now) (text_bytes c.args.name.now)))) (joined c.args.output.now c.emit_place.new.output c.load_element.new.output (index_code c.args.context.now.size (scope_in c.args.context.now) c.args.depth (text_bytes c.args.name.now) (expr_view c.args.index.now)) (load_code c.args.context.now.size (scratch c.args.context.now.size (scope_in c.args.context.now) c.args.depth) (named (scope_in c.args.context.now) (text_bytes c.args.name.now))) c.in_ok-emit_place.ensures c.in_ok-load_element.ensures) c.finish.ensures

pub emit_place-emit-requires : goal.emit_place-emit-requires
emit_place-emit-requires t c =
    let form = c.in-Shifted.ensures in
    let part = shifted_part (expr_view c.args.index.now) (expr_view c.in-Shifted.left.now) form.0 form.1 in
    let code = shifted_code (expr_view c.args.index.now) (expr_view c.in-Shifted.left.now) form.0 form.1 c.args.context.now.size (scope_in c.args.context.now) c.args.depth (text_bytes c.args.name.now) in
    let d0 = c.decreases in
    (omega arith, first_part IsNarrow (expr_code c.args.context.now.size (scope_in c.args.context.now) true c.args.depth (expr_view c.in-Shifted.left.now)) (plains (aligned (exponent_in (named (scope_in c.args.context.now) (text_bytes c.args.name.now))))) (subst (λ l. EachIn IsNarrow l) code c.requires.narrow))

pub emit_place-returns-in_ok-emit-in-Shifted : goal.emit_place-returns-in_ok-emit-in-Shifted
emit_place-returns-in_ok-emit-in-Shifted t c =
    let form = c.in-Shifted.ensures in
    let code = shifted_code (expr_view c.args.index.now) (expr_view c.in-Shifted.left.now) form.0 form.1 c.args.context.now.size (scope_in c.args.context.now) c.args.depth (text_bytes c.args.name.now) in
    let cleared = subst (λ k. OnOk c.aligned.result (c.aligned.new.output ≡ c.emit.new.output ++ flat (plains (aligned k)))) c.exponent-exponent.ensures.exact c.aligned.ensures in
    subst (λ l. OnOk c.aligned.result (c.aligned.new.output ≡ c.args.output.now ++ flat l)) (sym code)
    (joined_last c.aligned.result c.args.output.now c.emit.new.output c.aligned.new.output (expr_code c.args.context.now.size (scope_in c.args.context.now) true c.args.depth (expr_view c.in-Shifted.left.now)) (plains (aligned (exponent_in (named (scope_in c.args.context.now) (text_bytes c.args.name.now))))) c.in_ok-emit-in-Shifted.ensures cleared)

pub emit_call-emit_arguments-requires : goal.emit_call-emit_arguments-requires
emit_call-emit_arguments-requires t c =
    let d0 = c.decreases in
    (omega arith, first_part IsNarrow (arguments_code c.args.context.now.size (scope_in c.args.context.now) c.args.depth (exprs_view c.args.arguments.now)) ((callee_code (scope_in c.args.context.now) c.args.wanted (text_bytes c.args.name.now) (exprs_length (exprs_view c.args.arguments.now)) (named (scope_in c.args.context.now) (text_bytes c.args.name.now))) ⊕ (dropped c.args.wanted (named (scope_in c.args.context.now) (text_bytes c.args.name.now)))) c.requires.narrow)

pub emit_call-call_named-requires : goal.emit_call-call_named-requires
emit_call-call_named-requires t c =
    let count = sym (arguments_length c.args.arguments.now) in
    record { narrow = subst (λ n. EachIn IsNarrow (callee_code (scope_in c.args.context.now) c.args.wanted (text_bytes c.args.name.now) n (named (scope_in c.args.context.now) (text_bytes c.args.name.now)))) (sym count) (first_part IsNarrow (callee_code (scope_in c.args.context.now) c.args.wanted (text_bytes c.args.name.now) (exprs_length (exprs_view c.args.arguments.now)) (named (scope_in c.args.context.now) (text_bytes c.args.name.now))) (dropped c.args.wanted (named (scope_in c.args.context.now) (text_bytes c.args.name.now))) (second_part IsNarrow (arguments_code c.args.context.now.size (scope_in c.args.context.now) c.args.depth (exprs_view c.args.arguments.now)) ((callee_code (scope_in c.args.context.now) c.args.wanted (text_bytes c.args.name.now) (exprs_length (exprs_view c.args.arguments.now)) (named (scope_in c.args.context.now) (text_bytes c.args.name.now))) ⊕ (dropped c.args.wanted (named (scope_in c.args.context.now) (text_bytes c.args.name.now)))) c.requires.narrow)) }

pub emit_call-returns : goal.emit_call-returns
emit_call-returns t c =
    let count = sym (arguments_length c.args.arguments.now) in
    let called = subst (λ n. c.call_named.new.output ≡ c.emit_arguments.new.output ++ flat (callee_code (scope_in c.args.context.now) c.args.wanted (text_bytes c.args.name.now) n (named (scope_in c.args.context.now) (text_bytes c.args.name.now)))) count c.in_ok-call_named.ensures in
    joined_last c.drop_called.result c.args.output.now c.emit_arguments.new.output c.drop_called.new.output (arguments_code c.args.context.now.size (scope_in c.args.context.now) c.args.depth (exprs_view c.args.arguments.now)) ((callee_code (scope_in c.args.context.now) c.args.wanted (text_bytes c.args.name.now) (exprs_length (exprs_view c.args.arguments.now)) (named (scope_in c.args.context.now) (text_bytes c.args.name.now))) ⊕ (dropped c.args.wanted (named (scope_in c.args.context.now) (text_bytes c.args.name.now)))) c.in_ok-emit_arguments.ensures (joined_last c.drop_called.result c.emit_arguments.new.output c.call_named.new.output c.drop_called.new.output (callee_code (scope_in c.args.context.now) c.args.wanted (text_bytes c.args.name.now) (exprs_length (exprs_view c.args.arguments.now)) (named (scope_in c.args.context.now) (text_bytes c.args.name.now))) (dropped c.args.wanted (named (scope_in c.args.context.now) (text_bytes c.args.name.now))) called c.drop_called.ensures)

pub emit_table_call-emit-requires : goal.emit_table_call-emit-requires
emit_table_call-emit-requires t c =
    let d0 = c.decreases in
    (omega arith, first_part IsNarrow (expr_code c.args.context.now.size (scope_in c.args.context.now) true c.args.depth (expr_view c.args.index.now)) ((plains (from_base (base_of (scope_in c.args.context.now).home (text_bytes c.args.name.now)))) ⊕ ((one (local_set (scratch c.args.context.now.size (scope_in c.args.context.now) c.args.depth))) ⊕ ((arguments_code c.args.context.now.size (scope_in c.args.context.now) (suc c.args.depth) (exprs_view c.args.arguments.now)) ⊕ (one (local_get (scratch c.args.context.now.size (scope_in c.args.context.now) c.args.depth)) ⊕ entry_code (scope_in c.args.context.now) (named (scope_in c.args.context.now) (text_bytes c.args.name.now)))))) c.requires.narrow)

pub emit_table_call-set_entry-requires : goal.emit_table_call-set_entry-requires
emit_table_call-set_entry-requires t c =
    record { narrow = front_part (plains (from_base (base_of (scope_in c.args.context.now).home (text_bytes c.args.name.now)))) (one (local_set (scratch c.args.context.now.size (scope_in c.args.context.now) c.args.depth))) ((arguments_code c.args.context.now.size (scope_in c.args.context.now) (suc c.args.depth) (exprs_view c.args.arguments.now)) ⊕ (one (local_get (scratch c.args.context.now.size (scope_in c.args.context.now) c.args.depth)) ⊕ entry_code (scope_in c.args.context.now) (named (scope_in c.args.context.now) (text_bytes c.args.name.now)))) (second_part IsNarrow (expr_code c.args.context.now.size (scope_in c.args.context.now) true c.args.depth (expr_view c.args.index.now)) ((plains (from_base (base_of (scope_in c.args.context.now).home (text_bytes c.args.name.now)))) ⊕ ((one (local_set (scratch c.args.context.now.size (scope_in c.args.context.now) c.args.depth))) ⊕ ((arguments_code c.args.context.now.size (scope_in c.args.context.now) (suc c.args.depth) (exprs_view c.args.arguments.now)) ⊕ (one (local_get (scratch c.args.context.now.size (scope_in c.args.context.now) c.args.depth)) ⊕ entry_code (scope_in c.args.context.now) (named (scope_in c.args.context.now) (text_bytes c.args.name.now)))))) c.requires.narrow) }

pub emit_table_call-overflow_add-inside : goal.emit_table_call-overflow_add-inside
emit_table_call-overflow_add-inside t c =
    let room : scratch c.args.context.now.size (scope_in c.args.context.now) c.args.depth < 2 ^ 32 = (second_part IsNarrow (plains (from_base (base_of (scope_in c.args.context.now).home (text_bytes c.args.name.now)))) ((one (local_set (scratch c.args.context.now.size (scope_in c.args.context.now) c.args.depth))) ⊕ ((arguments_code c.args.context.now.size (scope_in c.args.context.now) (suc c.args.depth) (exprs_view c.args.arguments.now)) ⊕ (one (local_get (scratch c.args.context.now.size (scope_in c.args.context.now) c.args.depth)) ⊕ entry_code (scope_in c.args.context.now) (named (scope_in c.args.context.now) (text_bytes c.args.name.now))))) (second_part IsNarrow (expr_code c.args.context.now.size (scope_in c.args.context.now) true c.args.depth (expr_view c.args.index.now)) ((plains (from_base (base_of (scope_in c.args.context.now).home (text_bytes c.args.name.now)))) ⊕ ((one (local_set (scratch c.args.context.now.size (scope_in c.args.context.now) c.args.depth))) ⊕ ((arguments_code c.args.context.now.size (scope_in c.args.context.now) (suc c.args.depth) (exprs_view c.args.arguments.now)) ⊕ (one (local_get (scratch c.args.context.now.size (scope_in c.args.context.now) c.args.depth)) ⊕ entry_code (scope_in c.args.context.now) (named (scope_in c.args.context.now) (text_bytes c.args.name.now)))))) c.requires.narrow)).0 in
    omega (arith, room)

pub emit_table_call-emit_arguments-requires : goal.emit_table_call-emit_arguments-requires
emit_table_call-emit_arguments-requires t c =
    let d0 = c.decreases in
    (omega arith, subst (λ d. EachIn IsNarrow (arguments_code c.args.context.now.size (scope_in c.args.context.now) d (exprs_view c.args.arguments.now))) (sym (add-one c.args.depth)) (first_part IsNarrow (arguments_code c.args.context.now.size (scope_in c.args.context.now) (suc c.args.depth) (exprs_view c.args.arguments.now)) (one (local_get (scratch c.args.context.now.size (scope_in c.args.context.now) c.args.depth)) ⊕ entry_code (scope_in c.args.context.now) (named (scope_in c.args.context.now) (text_bytes c.args.name.now))) (second_part IsNarrow (one (local_set (scratch c.args.context.now.size (scope_in c.args.context.now) c.args.depth))) ((arguments_code c.args.context.now.size (scope_in c.args.context.now) (suc c.args.depth) (exprs_view c.args.arguments.now)) ⊕ (one (local_get (scratch c.args.context.now.size (scope_in c.args.context.now) c.args.depth)) ⊕ entry_code (scope_in c.args.context.now) (named (scope_in c.args.context.now) (text_bytes c.args.name.now)))) (second_part IsNarrow (plains (from_base (base_of (scope_in c.args.context.now).home (text_bytes c.args.name.now)))) ((one (local_set (scratch c.args.context.now.size (scope_in c.args.context.now) c.args.depth))) ⊕ ((arguments_code c.args.context.now.size (scope_in c.args.context.now) (suc c.args.depth) (exprs_view c.args.arguments.now)) ⊕ (one (local_get (scratch c.args.context.now.size (scope_in c.args.context.now) c.args.depth)) ⊕ entry_code (scope_in c.args.context.now) (named (scope_in c.args.context.now) (text_bytes c.args.name.now))))) (second_part IsNarrow (expr_code c.args.context.now.size (scope_in c.args.context.now) true c.args.depth (expr_view c.args.index.now)) ((plains (from_base (base_of (scope_in c.args.context.now).home (text_bytes c.args.name.now)))) ⊕ ((one (local_set (scratch c.args.context.now.size (scope_in c.args.context.now) c.args.depth))) ⊕ ((arguments_code c.args.context.now.size (scope_in c.args.context.now) (suc c.args.depth) (exprs_view c.args.arguments.now)) ⊕ (one (local_get (scratch c.args.context.now.size (scope_in c.args.context.now) c.args.depth)) ⊕ entry_code (scope_in c.args.context.now) (named (scope_in c.args.context.now) (text_bytes c.args.name.now)))))) c.requires.narrow)))))

pub emit_table_call-call_entry-requires : goal.emit_table_call-call_entry-requires
emit_table_call-call_entry-requires t c =
    record { narrow = second_part IsNarrow (arguments_code c.args.context.now.size (scope_in c.args.context.now) (suc c.args.depth) (exprs_view c.args.arguments.now)) (one (local_get (scratch c.args.context.now.size (scope_in c.args.context.now) c.args.depth)) ⊕ entry_code (scope_in c.args.context.now) (named (scope_in c.args.context.now) (text_bytes c.args.name.now))) (second_part IsNarrow (one (local_set (scratch c.args.context.now.size (scope_in c.args.context.now) c.args.depth))) ((arguments_code c.args.context.now.size (scope_in c.args.context.now) (suc c.args.depth) (exprs_view c.args.arguments.now)) ⊕ (one (local_get (scratch c.args.context.now.size (scope_in c.args.context.now) c.args.depth)) ⊕ entry_code (scope_in c.args.context.now) (named (scope_in c.args.context.now) (text_bytes c.args.name.now)))) (second_part IsNarrow (plains (from_base (base_of (scope_in c.args.context.now).home (text_bytes c.args.name.now)))) ((one (local_set (scratch c.args.context.now.size (scope_in c.args.context.now) c.args.depth))) ⊕ ((arguments_code c.args.context.now.size (scope_in c.args.context.now) (suc c.args.depth) (exprs_view c.args.arguments.now)) ⊕ (one (local_get (scratch c.args.context.now.size (scope_in c.args.context.now) c.args.depth)) ⊕ entry_code (scope_in c.args.context.now) (named (scope_in c.args.context.now) (text_bytes c.args.name.now))))) (second_part IsNarrow (expr_code c.args.context.now.size (scope_in c.args.context.now) true c.args.depth (expr_view c.args.index.now)) ((plains (from_base (base_of (scope_in c.args.context.now).home (text_bytes c.args.name.now)))) ⊕ ((one (local_set (scratch c.args.context.now.size (scope_in c.args.context.now) c.args.depth))) ⊕ ((arguments_code c.args.context.now.size (scope_in c.args.context.now) (suc c.args.depth) (exprs_view c.args.arguments.now)) ⊕ (one (local_get (scratch c.args.context.now.size (scope_in c.args.context.now) c.args.depth)) ⊕ entry_code (scope_in c.args.context.now) (named (scope_in c.args.context.now) (text_bytes c.args.name.now)))))) c.requires.narrow))) }

pub emit_table_call-returns : goal.emit_table_call-returns
emit_table_call-returns t c =
    let inner = subst (λ d. c.emit_arguments.new.output ≡ c.set_entry.new.output ++ flat (arguments_code c.args.context.now.size (scope_in c.args.context.now) d (exprs_view c.args.arguments.now))) (add-one c.args.depth) c.in_ok-emit_arguments.ensures in
    joined_last c.call_entry.result c.args.output.now c.emit.new.output c.call_entry.new.output (expr_code c.args.context.now.size (scope_in c.args.context.now) true c.args.depth (expr_view c.args.index.now)) ((plains (from_base (base_of (scope_in c.args.context.now).home (text_bytes c.args.name.now)))) ⊕ ((one (local_set (scratch c.args.context.now.size (scope_in c.args.context.now) c.args.depth))) ⊕ ((arguments_code c.args.context.now.size (scope_in c.args.context.now) (suc c.args.depth) (exprs_view c.args.arguments.now)) ⊕ (one (local_get (scratch c.args.context.now.size (scope_in c.args.context.now) c.args.depth)) ⊕ entry_code (scope_in c.args.context.now) (named (scope_in c.args.context.now) (text_bytes c.args.name.now)))))) c.in_ok-emit.ensures (as_pair c.call_entry.result c.emit.new.output c.call_entry.new.output (plains (from_base (base_of (scope_in c.args.context.now).home (text_bytes c.args.name.now)))) (one (local_set (scratch c.args.context.now.size (scope_in c.args.context.now) c.args.depth))) ((arguments_code c.args.context.now.size (scope_in c.args.context.now) (suc c.args.depth) (exprs_view c.args.arguments.now)) ⊕ (one (local_get (scratch c.args.context.now.size (scope_in c.args.context.now) c.args.depth)) ⊕ entry_code (scope_in c.args.context.now) (named (scope_in c.args.context.now) (text_bytes c.args.name.now)))) (joined_last c.call_entry.result c.emit.new.output c.set_entry.new.output c.call_entry.new.output ((plains (from_base (base_of (scope_in c.args.context.now).home (text_bytes c.args.name.now)))) ⊕ (one (local_set (scratch c.args.context.now.size (scope_in c.args.context.now) c.args.depth)))) ((arguments_code c.args.context.now.size (scope_in c.args.context.now) (suc c.args.depth) (exprs_view c.args.arguments.now)) ⊕ (one (local_get (scratch c.args.context.now.size (scope_in c.args.context.now) c.args.depth)) ⊕ entry_code (scope_in c.args.context.now) (named (scope_in c.args.context.now) (text_bytes c.args.name.now)))) c.in_ok-set_entry.ensures (joined_last c.call_entry.result c.set_entry.new.output c.emit_arguments.new.output c.call_entry.new.output (arguments_code c.args.context.now.size (scope_in c.args.context.now) (suc c.args.depth) (exprs_view c.args.arguments.now)) (one (local_get (scratch c.args.context.now.size (scope_in c.args.context.now) c.args.depth)) ⊕ entry_code (scope_in c.args.context.now) (named (scope_in c.args.context.now) (text_bytes c.args.name.now))) inner c.call_entry.ensures)))

pub emit_store-emit_place-requires : goal.emit_store-emit_place-requires
emit_store-emit_place-requires t c =
    let d0 = c.decreases in
    (omega arith, first_part IsNarrow (index_code c.args.context.now.size (scope_in c.args.context.now) c.args.depth (text_bytes c.args.name.now) (expr_view c.args.index.now)) ((expr_code c.args.context.now.size (scope_in c.args.context.now) true c.args.depth (expr_view c.args.value.now)) ⊕ ((store_code c.args.context.now.size (scratch c.args.context.now.size (scope_in c.args.context.now) c.args.depth) (scratch c.args.context.now.size (scope_in c.args.context.now) (suc c.args.depth)) (named (scope_in c.args.context.now) (text_bytes c.args.name.now))) ⊕ (stored_code c.args.wanted (scratch c.args.context.now.size (scope_in c.args.context.now) (suc c.args.depth))))) c.requires.narrow)

pub emit_store-emit-requires : goal.emit_store-emit-requires
emit_store-emit-requires t c =
    let d0 = c.decreases in
    (omega arith, first_part IsNarrow (expr_code c.args.context.now.size (scope_in c.args.context.now) true c.args.depth (expr_view c.args.value.now)) ((store_code c.args.context.now.size (scratch c.args.context.now.size (scope_in c.args.context.now) c.args.depth) (scratch c.args.context.now.size (scope_in c.args.context.now) (suc c.args.depth)) (named (scope_in c.args.context.now) (text_bytes c.args.name.now))) ⊕ (stored_code c.args.wanted (scratch c.args.context.now.size (scope_in c.args.context.now) (suc c.args.depth)))) (second_part IsNarrow (index_code c.args.context.now.size (scope_in c.args.context.now) c.args.depth (text_bytes c.args.name.now) (expr_view c.args.index.now)) ((expr_code c.args.context.now.size (scope_in c.args.context.now) true c.args.depth (expr_view c.args.value.now)) ⊕ ((store_code c.args.context.now.size (scratch c.args.context.now.size (scope_in c.args.context.now) c.args.depth) (scratch c.args.context.now.size (scope_in c.args.context.now) (suc c.args.depth)) (named (scope_in c.args.context.now) (text_bytes c.args.name.now))) ⊕ (stored_code c.args.wanted (scratch c.args.context.now.size (scope_in c.args.context.now) (suc c.args.depth))))) c.requires.narrow))

pub emit_store-store_element-requires : goal.emit_store-store_element-requires
emit_store-store_element-requires t c =
    record { narrow = first_part IsNarrow (store_code c.args.context.now.size (scratch c.args.context.now.size (scope_in c.args.context.now) c.args.depth) (scratch c.args.context.now.size (scope_in c.args.context.now) (suc c.args.depth)) (named (scope_in c.args.context.now) (text_bytes c.args.name.now))) (stored_code c.args.wanted (scratch c.args.context.now.size (scope_in c.args.context.now) (suc c.args.depth))) (second_part IsNarrow (expr_code c.args.context.now.size (scope_in c.args.context.now) true c.args.depth (expr_view c.args.value.now)) ((store_code c.args.context.now.size (scratch c.args.context.now.size (scope_in c.args.context.now) c.args.depth) (scratch c.args.context.now.size (scope_in c.args.context.now) (suc c.args.depth)) (named (scope_in c.args.context.now) (text_bytes c.args.name.now))) ⊕ (stored_code c.args.wanted (scratch c.args.context.now.size (scope_in c.args.context.now) (suc c.args.depth)))) (second_part IsNarrow (index_code c.args.context.now.size (scope_in c.args.context.now) c.args.depth (text_bytes c.args.name.now) (expr_view c.args.index.now)) ((expr_code c.args.context.now.size (scope_in c.args.context.now) true c.args.depth (expr_view c.args.value.now)) ⊕ ((store_code c.args.context.now.size (scratch c.args.context.now.size (scope_in c.args.context.now) c.args.depth) (scratch c.args.context.now.size (scope_in c.args.context.now) (suc c.args.depth)) (named (scope_in c.args.context.now) (text_bytes c.args.name.now))) ⊕ (stored_code c.args.wanted (scratch c.args.context.now.size (scope_in c.args.context.now) (suc c.args.depth))))) c.requires.narrow)) }

pub emit_store-stored_value-requires : goal.emit_store-stored_value-requires
emit_store-stored_value-requires t c =
    record { narrow = second_part IsNarrow (store_code c.args.context.now.size (scratch c.args.context.now.size (scope_in c.args.context.now) c.args.depth) (scratch c.args.context.now.size (scope_in c.args.context.now) (suc c.args.depth)) (named (scope_in c.args.context.now) (text_bytes c.args.name.now))) (stored_code c.args.wanted (scratch c.args.context.now.size (scope_in c.args.context.now) (suc c.args.depth))) (second_part IsNarrow (expr_code c.args.context.now.size (scope_in c.args.context.now) true c.args.depth (expr_view c.args.value.now)) ((store_code c.args.context.now.size (scratch c.args.context.now.size (scope_in c.args.context.now) c.args.depth) (scratch c.args.context.now.size (scope_in c.args.context.now) (suc c.args.depth)) (named (scope_in c.args.context.now) (text_bytes c.args.name.now))) ⊕ (stored_code c.args.wanted (scratch c.args.context.now.size (scope_in c.args.context.now) (suc c.args.depth)))) (second_part IsNarrow (index_code c.args.context.now.size (scope_in c.args.context.now) c.args.depth (text_bytes c.args.name.now) (expr_view c.args.index.now)) ((expr_code c.args.context.now.size (scope_in c.args.context.now) true c.args.depth (expr_view c.args.value.now)) ⊕ ((store_code c.args.context.now.size (scratch c.args.context.now.size (scope_in c.args.context.now) c.args.depth) (scratch c.args.context.now.size (scope_in c.args.context.now) (suc c.args.depth)) (named (scope_in c.args.context.now) (text_bytes c.args.name.now))) ⊕ (stored_code c.args.wanted (scratch c.args.context.now.size (scope_in c.args.context.now) (suc c.args.depth))))) c.requires.narrow)) }

pub emit_store-returns : goal.emit_store-returns
emit_store-returns t c =
    joined_last c.stored_value.result c.args.output.now c.emit_place.new.output c.stored_value.new.output (index_code c.args.context.now.size (scope_in c.args.context.now) c.args.depth (text_bytes c.args.name.now) (expr_view c.args.index.now)) ((expr_code c.args.context.now.size (scope_in c.args.context.now) true c.args.depth (expr_view c.args.value.now)) ⊕ ((store_code c.args.context.now.size (scratch c.args.context.now.size (scope_in c.args.context.now) c.args.depth) (scratch c.args.context.now.size (scope_in c.args.context.now) (suc c.args.depth)) (named (scope_in c.args.context.now) (text_bytes c.args.name.now))) ⊕ (stored_code c.args.wanted (scratch c.args.context.now.size (scope_in c.args.context.now) (suc c.args.depth))))) c.in_ok-emit_place.ensures (joined_last c.stored_value.result c.emit_place.new.output c.emit.new.output c.stored_value.new.output (expr_code c.args.context.now.size (scope_in c.args.context.now) true c.args.depth (expr_view c.args.value.now)) ((store_code c.args.context.now.size (scratch c.args.context.now.size (scope_in c.args.context.now) c.args.depth) (scratch c.args.context.now.size (scope_in c.args.context.now) (suc c.args.depth)) (named (scope_in c.args.context.now) (text_bytes c.args.name.now))) ⊕ (stored_code c.args.wanted (scratch c.args.context.now.size (scope_in c.args.context.now) (suc c.args.depth)))) c.in_ok-emit.ensures (joined_last c.stored_value.result c.emit.new.output c.store_element.new.output c.stored_value.new.output (store_code c.args.context.now.size (scratch c.args.context.now.size (scope_in c.args.context.now) c.args.depth) (scratch c.args.context.now.size (scope_in c.args.context.now) (suc c.args.depth)) (named (scope_in c.args.context.now) (text_bytes c.args.name.now))) (stored_code c.args.wanted (scratch c.args.context.now.size (scope_in c.args.context.now) (suc c.args.depth))) c.in_ok-store_element.ensures c.stored_value.ensures))

pub emit_unary-emit-requires : goal.emit_unary-emit-requires
emit_unary-emit-requires t c =
    let d0 = c.decreases in
    (omega arith, first_part IsNarrow (expr_code c.args.context.now.size (scope_in c.args.context.now) true c.args.depth (expr_view c.args.operand.now)) (after_operand c.args.op) (second_part IsNarrow (before_operand c.args.op) ((expr_code c.args.context.now.size (scope_in c.args.context.now) true c.args.depth (expr_view c.args.operand.now)) ⊕ (after_operand c.args.op)) (value_part c.args.wanted ((before_operand c.args.op) ⊕ ((expr_code c.args.context.now.size (scope_in c.args.context.now) true c.args.depth (expr_view c.args.operand.now)) ⊕ (after_operand c.args.op))) c.requires.narrow)))

pub emit_unary-returns : goal.emit_unary-returns
emit_unary-returns t c =
    finished_last c.finish.result c.args.wanted c.args.output.now c.after_operand.new.output c.finish.new.output ((before_operand c.args.op) ⊕ ((expr_code c.args.context.now.size (scope_in c.args.context.now) true c.args.depth (expr_view c.args.operand.now)) ⊕ (after_operand c.args.op))) (joined c.args.output.now c.before_operand.new.output c.after_operand.new.output (before_operand c.args.op) ((expr_code c.args.context.now.size (scope_in c.args.context.now) true c.args.depth (expr_view c.args.operand.now)) ⊕ (after_operand c.args.op)) c.in_ok-before_operand.ensures (joined c.before_operand.new.output c.emit.new.output c.after_operand.new.output (expr_code c.args.context.now.size (scope_in c.args.context.now) true c.args.depth (expr_view c.args.operand.now)) (after_operand c.args.op) c.in_ok-emit.ensures c.in_ok-after_operand.ensures)) c.finish.ensures

pub emit_binary-emit-requires : goal.emit_binary-emit-requires
emit_binary-emit-requires t c =
    let d0 = c.decreases in
    (omega arith, left_part (or_zero c.args.op (expr_view c.args.right.now)) (expr_code c.args.context.now.size (scope_in c.args.context.now) true c.args.depth (expr_view c.args.left.now)) ((expr_code c.args.context.now.size (scope_in c.args.context.now) true c.args.depth (expr_view c.args.right.now)) ⊕ (operator c.args.op (is_unsigned (expr_view c.args.left.now) || is_unsigned (expr_view c.args.right.now)) (scratch c.args.context.now.size (scope_in c.args.context.now) c.args.depth) (scratch c.args.context.now.size (scope_in c.args.context.now) (suc c.args.depth)))) (value_part c.args.wanted ((if (or_zero c.args.op (expr_view c.args.right.now)) then (expr_code c.args.context.now.size (scope_in c.args.context.now) true c.args.depth (expr_view c.args.left.now)) else (expr_code c.args.context.now.size (scope_in c.args.context.now) true c.args.depth (expr_view c.args.left.now)) ⊕ ((expr_code c.args.context.now.size (scope_in c.args.context.now) true c.args.depth (expr_view c.args.right.now)) ⊕ (operator c.args.op (is_unsigned (expr_view c.args.left.now) || is_unsigned (expr_view c.args.right.now)) (scratch c.args.context.now.size (scope_in c.args.context.now) c.args.depth) (scratch c.args.context.now.size (scope_in c.args.context.now) (suc c.args.depth)))))) c.requires.narrow))

pub emit_binary-returns-then-bare : goal.emit_binary-returns-then-bare
emit_binary-returns-then-bare t c =
    let bare = sym c.is_or_zero-bare.ensures ∙ c.if-bare.true in
    subst (λ z. OnOk c.finish.result (c.finish.new.output ≡ c.args.output.now ++ flat (finished c.args.wanted (if z then (expr_code c.args.context.now.size (scope_in c.args.context.now) true c.args.depth (expr_view c.args.left.now)) else (expr_code c.args.context.now.size (scope_in c.args.context.now) true c.args.depth (expr_view c.args.left.now)) ⊕ ((expr_code c.args.context.now.size (scope_in c.args.context.now) true c.args.depth (expr_view c.args.right.now)) ⊕ (operator c.args.op (is_unsigned (expr_view c.args.left.now) || is_unsigned (expr_view c.args.right.now)) (scratch c.args.context.now.size (scope_in c.args.context.now) c.args.depth) (scratch c.args.context.now.size (scope_in c.args.context.now) (suc c.args.depth)))))))) (sym bare) (finished_last c.finish.result c.args.wanted c.args.output.now c.emit.new.output c.finish.new.output (expr_code c.args.context.now.size (scope_in c.args.context.now) true c.args.depth (expr_view c.args.left.now)) c.in_ok-emit.ensures c.finish.ensures)

pub emit_binary-emit-requires-2 : goal.emit_binary-emit-requires-2
emit_binary-emit-requires-2 t c =
    let full = sym c.is_or_zero-bare.ensures ∙ c.if-bare.false in
    let d0 = c.decreases in
    (omega arith, first_part IsNarrow (expr_code c.args.context.now.size (scope_in c.args.context.now) true c.args.depth (expr_view c.args.right.now)) (operator c.args.op (is_unsigned (expr_view c.args.left.now) || is_unsigned (expr_view c.args.right.now)) (scratch c.args.context.now.size (scope_in c.args.context.now) c.args.depth) (scratch c.args.context.now.size (scope_in c.args.context.now) (suc c.args.depth))) (second_part IsNarrow (expr_code c.args.context.now.size (scope_in c.args.context.now) true c.args.depth (expr_view c.args.left.now)) ((expr_code c.args.context.now.size (scope_in c.args.context.now) true c.args.depth (expr_view c.args.right.now)) ⊕ (operator c.args.op (is_unsigned (expr_view c.args.left.now) || is_unsigned (expr_view c.args.right.now)) (scratch c.args.context.now.size (scope_in c.args.context.now) c.args.depth) (scratch c.args.context.now.size (scope_in c.args.context.now) (suc c.args.depth)))) (subst (λ z. EachIn IsNarrow (if z then (expr_code c.args.context.now.size (scope_in c.args.context.now) true c.args.depth (expr_view c.args.left.now)) else (expr_code c.args.context.now.size (scope_in c.args.context.now) true c.args.depth (expr_view c.args.left.now)) ⊕ ((expr_code c.args.context.now.size (scope_in c.args.context.now) true c.args.depth (expr_view c.args.right.now)) ⊕ (operator c.args.op (is_unsigned (expr_view c.args.left.now) || is_unsigned (expr_view c.args.right.now)) (scratch c.args.context.now.size (scope_in c.args.context.now) c.args.depth) (scratch c.args.context.now.size (scope_in c.args.context.now) (suc c.args.depth)))))) full (value_part c.args.wanted ((if (or_zero c.args.op (expr_view c.args.right.now)) then (expr_code c.args.context.now.size (scope_in c.args.context.now) true c.args.depth (expr_view c.args.left.now)) else (expr_code c.args.context.now.size (scope_in c.args.context.now) true c.args.depth (expr_view c.args.left.now)) ⊕ ((expr_code c.args.context.now.size (scope_in c.args.context.now) true c.args.depth (expr_view c.args.right.now)) ⊕ (operator c.args.op (is_unsigned (expr_view c.args.left.now) || is_unsigned (expr_view c.args.right.now)) (scratch c.args.context.now.size (scope_in c.args.context.now) c.args.depth) (scratch c.args.context.now.size (scope_in c.args.context.now) (suc c.args.depth)))))) c.requires.narrow))))

pub emit_binary-operate-requires : goal.emit_binary-operate-requires
emit_binary-operate-requires t c =
    let full = sym c.is_or_zero-bare.ensures ∙ c.if-bare.false in
    record { narrow = second_part IsNarrow (expr_code c.args.context.now.size (scope_in c.args.context.now) true c.args.depth (expr_view c.args.right.now)) (operator c.args.op (is_unsigned (expr_view c.args.left.now) || is_unsigned (expr_view c.args.right.now)) (scratch c.args.context.now.size (scope_in c.args.context.now) c.args.depth) (scratch c.args.context.now.size (scope_in c.args.context.now) (suc c.args.depth))) (second_part IsNarrow (expr_code c.args.context.now.size (scope_in c.args.context.now) true c.args.depth (expr_view c.args.left.now)) ((expr_code c.args.context.now.size (scope_in c.args.context.now) true c.args.depth (expr_view c.args.right.now)) ⊕ (operator c.args.op (is_unsigned (expr_view c.args.left.now) || is_unsigned (expr_view c.args.right.now)) (scratch c.args.context.now.size (scope_in c.args.context.now) c.args.depth) (scratch c.args.context.now.size (scope_in c.args.context.now) (suc c.args.depth)))) (subst (λ z. EachIn IsNarrow (if z then (expr_code c.args.context.now.size (scope_in c.args.context.now) true c.args.depth (expr_view c.args.left.now)) else (expr_code c.args.context.now.size (scope_in c.args.context.now) true c.args.depth (expr_view c.args.left.now)) ⊕ ((expr_code c.args.context.now.size (scope_in c.args.context.now) true c.args.depth (expr_view c.args.right.now)) ⊕ (operator c.args.op (is_unsigned (expr_view c.args.left.now) || is_unsigned (expr_view c.args.right.now)) (scratch c.args.context.now.size (scope_in c.args.context.now) c.args.depth) (scratch c.args.context.now.size (scope_in c.args.context.now) (suc c.args.depth)))))) full (value_part c.args.wanted ((if (or_zero c.args.op (expr_view c.args.right.now)) then (expr_code c.args.context.now.size (scope_in c.args.context.now) true c.args.depth (expr_view c.args.left.now)) else (expr_code c.args.context.now.size (scope_in c.args.context.now) true c.args.depth (expr_view c.args.left.now)) ⊕ ((expr_code c.args.context.now.size (scope_in c.args.context.now) true c.args.depth (expr_view c.args.right.now)) ⊕ (operator c.args.op (is_unsigned (expr_view c.args.left.now) || is_unsigned (expr_view c.args.right.now)) (scratch c.args.context.now.size (scope_in c.args.context.now) c.args.depth) (scratch c.args.context.now.size (scope_in c.args.context.now) (suc c.args.depth)))))) c.requires.narrow))) }

pub emit_binary-returns : goal.emit_binary-returns
emit_binary-returns t c =
    let full = sym c.is_or_zero-bare.ensures ∙ c.if-bare.false in
    subst (λ z. OnOk c.finish-2.result (c.finish-2.new.output ≡ c.args.output.now ++ flat (finished c.args.wanted (if z then (expr_code c.args.context.now.size (scope_in c.args.context.now) true c.args.depth (expr_view c.args.left.now)) else (expr_code c.args.context.now.size (scope_in c.args.context.now) true c.args.depth (expr_view c.args.left.now)) ⊕ ((expr_code c.args.context.now.size (scope_in c.args.context.now) true c.args.depth (expr_view c.args.right.now)) ⊕ (operator c.args.op (is_unsigned (expr_view c.args.left.now) || is_unsigned (expr_view c.args.right.now)) (scratch c.args.context.now.size (scope_in c.args.context.now) c.args.depth) (scratch c.args.context.now.size (scope_in c.args.context.now) (suc c.args.depth)))))))) (sym full) (finished_last c.finish-2.result c.args.wanted c.args.output.now c.operate.new.output c.finish-2.new.output ((expr_code c.args.context.now.size (scope_in c.args.context.now) true c.args.depth (expr_view c.args.left.now)) ⊕ ((expr_code c.args.context.now.size (scope_in c.args.context.now) true c.args.depth (expr_view c.args.right.now)) ⊕ (operator c.args.op (is_unsigned (expr_view c.args.left.now) || is_unsigned (expr_view c.args.right.now)) (scratch c.args.context.now.size (scope_in c.args.context.now) c.args.depth) (scratch c.args.context.now.size (scope_in c.args.context.now) (suc c.args.depth))))) (joined c.args.output.now c.emit.new.output c.operate.new.output (expr_code c.args.context.now.size (scope_in c.args.context.now) true c.args.depth (expr_view c.args.left.now)) ((expr_code c.args.context.now.size (scope_in c.args.context.now) true c.args.depth (expr_view c.args.right.now)) ⊕ (operator c.args.op (is_unsigned (expr_view c.args.left.now) || is_unsigned (expr_view c.args.right.now)) (scratch c.args.context.now.size (scope_in c.args.context.now) c.args.depth) (scratch c.args.context.now.size (scope_in c.args.context.now) (suc c.args.depth)))) c.in_ok-emit.ensures (joined c.emit.new.output c.emit-2.new.output c.operate.new.output (expr_code c.args.context.now.size (scope_in c.args.context.now) true c.args.depth (expr_view c.args.right.now)) (operator c.args.op (is_unsigned (expr_view c.args.left.now) || is_unsigned (expr_view c.args.right.now)) (scratch c.args.context.now.size (scope_in c.args.context.now) c.args.depth) (scratch c.args.context.now.size (scope_in c.args.context.now) (suc c.args.depth))) c.in_ok-emit-2.ensures c.in_ok-operate.ensures)) c.finish-2.ensures)

pub emit_chain-emit-requires : goal.emit_chain-emit-requires
emit_chain-emit-requires t c =
    let d0 = c.decreases in
    (omega arith, first_part IsNarrow (expr_code c.args.context.now.size (scope_in c.args.context.now) true c.args.depth (expr_view c.args.first.now)) (links_code c.args.context.now.size (scope_in c.args.context.now) c.args.depth (links_view c.args.links.now)) (value_part c.args.wanted ((expr_code c.args.context.now.size (scope_in c.args.context.now) true c.args.depth (expr_view c.args.first.now)) ⊕ (links_code c.args.context.now.size (scope_in c.args.context.now) c.args.depth (links_view c.args.links.now))) c.requires.narrow))

pub emit_chain-emit_links-requires : goal.emit_chain-emit_links-requires
emit_chain-emit_links-requires t c =
    let d0 = c.decreases in
    (omega arith, second_part IsNarrow (expr_code c.args.context.now.size (scope_in c.args.context.now) true c.args.depth (expr_view c.args.first.now)) (links_code c.args.context.now.size (scope_in c.args.context.now) c.args.depth (links_view c.args.links.now)) (value_part c.args.wanted ((expr_code c.args.context.now.size (scope_in c.args.context.now) true c.args.depth (expr_view c.args.first.now)) ⊕ (links_code c.args.context.now.size (scope_in c.args.context.now) c.args.depth (links_view c.args.links.now))) c.requires.narrow))

pub emit_chain-returns : goal.emit_chain-returns
emit_chain-returns t c =
    finished_last c.finish.result c.args.wanted c.args.output.now c.emit_links.new.output c.finish.new.output ((expr_code c.args.context.now.size (scope_in c.args.context.now) true c.args.depth (expr_view c.args.first.now)) ⊕ (links_code c.args.context.now.size (scope_in c.args.context.now) c.args.depth (links_view c.args.links.now))) (joined c.args.output.now c.emit.new.output c.emit_links.new.output (expr_code c.args.context.now.size (scope_in c.args.context.now) true c.args.depth (expr_view c.args.first.now)) (links_code c.args.context.now.size (scope_in c.args.context.now) c.args.depth (links_view c.args.links.now)) c.in_ok-emit.ensures c.in_ok-emit_links.ensures) c.finish.ensures

pub emit_cond-emit-requires : goal.emit_cond-emit-requires
emit_cond-emit-requires t c =
    let d0 = c.decreases in
    (omega arith, first_part IsNarrow (expr_code c.args.context.now.size (scope_in c.args.context.now) true c.args.depth (expr_view c.args.condition.now)) (if_block (Some I32) (expr_code c.args.context.now.size (scope_in c.args.context.now) true c.args.depth (expr_view c.args.yes.now)) (expr_code c.args.context.now.size (scope_in c.args.context.now) true c.args.depth (expr_view c.args.no.now)) ▹ ε) (value_part c.args.wanted ((expr_code c.args.context.now.size (scope_in c.args.context.now) true c.args.depth (expr_view c.args.condition.now)) ⊕ (if_block (Some I32) (expr_code c.args.context.now.size (scope_in c.args.context.now) true c.args.depth (expr_view c.args.yes.now)) (expr_code c.args.context.now.size (scope_in c.args.context.now) true c.args.depth (expr_view c.args.no.now)) ▹ ε)) c.requires.narrow))

pub emit_cond-emit-requires-2 : goal.emit_cond-emit-requires-2
emit_cond-emit-requires-2 t c =
    let d0 = c.decreases in
    (omega arith, (second_part IsNarrow (expr_code c.args.context.now.size (scope_in c.args.context.now) true c.args.depth (expr_view c.args.condition.now)) (if_block (Some I32) (expr_code c.args.context.now.size (scope_in c.args.context.now) true c.args.depth (expr_view c.args.yes.now)) (expr_code c.args.context.now.size (scope_in c.args.context.now) true c.args.depth (expr_view c.args.no.now)) ▹ ε) (value_part c.args.wanted ((expr_code c.args.context.now.size (scope_in c.args.context.now) true c.args.depth (expr_view c.args.condition.now)) ⊕ (if_block (Some I32) (expr_code c.args.context.now.size (scope_in c.args.context.now) true c.args.depth (expr_view c.args.yes.now)) (expr_code c.args.context.now.size (scope_in c.args.context.now) true c.args.depth (expr_view c.args.no.now)) ▹ ε)) c.requires.narrow)).1)

pub emit_cond-emit-requires-3 : goal.emit_cond-emit-requires-3
emit_cond-emit-requires-3 t c =
    let d0 = c.decreases in
    (omega arith, (second_part IsNarrow (expr_code c.args.context.now.size (scope_in c.args.context.now) true c.args.depth (expr_view c.args.condition.now)) (if_block (Some I32) (expr_code c.args.context.now.size (scope_in c.args.context.now) true c.args.depth (expr_view c.args.yes.now)) (expr_code c.args.context.now.size (scope_in c.args.context.now) true c.args.depth (expr_view c.args.no.now)) ▹ ε) (value_part c.args.wanted ((expr_code c.args.context.now.size (scope_in c.args.context.now) true c.args.depth (expr_view c.args.condition.now)) ⊕ (if_block (Some I32) (expr_code c.args.context.now.size (scope_in c.args.context.now) true c.args.depth (expr_view c.args.yes.now)) (expr_code c.args.context.now.size (scope_in c.args.context.now) true c.args.depth (expr_view c.args.no.now)) ▹ ε)) c.requires.narrow)).2)

pub emit_cond-returns : goal.emit_cond-returns
emit_cond-returns t c =
    finished_last c.finish.result c.args.wanted c.args.output.now c.end_arms.new.self c.finish.new.output ((expr_code c.args.context.now.size (scope_in c.args.context.now) true c.args.depth (expr_view c.args.condition.now)) ⊕ (if_block (Some I32) (expr_code c.args.context.now.size (scope_in c.args.context.now) true c.args.depth (expr_view c.args.yes.now)) (expr_code c.args.context.now.size (scope_in c.args.context.now) true c.args.depth (expr_view c.args.no.now)) ▹ ε)) (joined c.args.output.now c.emit.new.output c.end_arms.new.self (expr_code c.args.context.now.size (scope_in c.args.context.now) true c.args.depth (expr_view c.args.condition.now)) (if_block (Some I32) (expr_code c.args.context.now.size (scope_in c.args.context.now) true c.args.depth (expr_view c.args.yes.now)) (expr_code c.args.context.now.size (scope_in c.args.context.now) true c.args.depth (expr_view c.args.no.now)) ▹ ε) c.in_ok-emit.ensures (arms c.emit.new.output c.push.new.self c.emit-2.new.output c.push-2.new.self c.emit-3.new.output c.end_arms.new.self (Some I32) (expr_code c.args.context.now.size (scope_in c.args.context.now) true c.args.depth (expr_view c.args.yes.now)) (expr_code c.args.context.now.size (scope_in c.args.context.now) true c.args.depth (expr_view c.args.no.now)) c.in_ok-push.ensures c.in_ok-emit-2.ensures c.in_ok-push-2.ensures c.in_ok-emit-3.ensures c.in_ok-end_arms.ensures)) c.finish.ensures

pub emit_comma-emit_parts-requires : goal.emit_comma-emit_parts-requires
emit_comma-emit_parts-requires t c =
    let d0 = c.decreases in
    (omega arith, value_part c.args.wanted (comma_code c.args.context.now.size (scope_in c.args.context.now) c.args.depth (exprs_view c.args.parts.now)) c.requires.narrow)

pub emit_comma-returns : goal.emit_comma-returns
emit_comma-returns t c =
    finished_last c.finish.result c.args.wanted c.args.output.now c.emit_parts.new.output c.finish.new.output (comma_code c.args.context.now.size (scope_in c.args.context.now) c.args.depth (exprs_view c.args.parts.now)) c.in_ok-emit_parts.ensures c.finish.ensures

pub emit_arguments-emit-requires : goal.emit_arguments-emit-requires
emit_arguments-emit-requires t c =
    let is = argument_left c.args.context.now.size (scope_in c.args.context.now) c.args.depth c.args.arguments.now c.loop-argument.argument-index c.argument-item.result c.loop-argument-test.true c.argument-item.is in
    let k = nodes_left c.args.arguments.now c.loop-argument.argument-index c.argument-item.result c.loop-argument-test.true c.argument-item.is in
    let left = c.loop-argument.invariant.left in
    let d0 = c.decreases in
    (omega arith, here_narrow (arguments c.args.context.now.size (scope_in c.args.context.now) c.args.depth (drop c.loop-argument.argument-index c.args.arguments.now)) (expr_code c.args.context.now.size (scope_in c.args.context.now) true c.args.depth (expr_view c.argument-item.result)) (arguments c.args.context.now.size (scope_in c.args.context.now) c.args.depth (drop (c.loop-argument.argument-index + 1) c.args.arguments.now)) is c.loop-argument.invariant.narrow)

pub emit_arguments-loop-argument-preserved : goal.emit_arguments-loop-argument-preserved
emit_arguments-loop-argument-preserved t c =
    let is = argument_left c.args.context.now.size (scope_in c.args.context.now) c.args.depth c.args.arguments.now c.loop-argument.argument-index c.argument-item.result c.loop-argument-test.true c.argument-item.is in
    let k = nodes_left c.args.arguments.now c.loop-argument.argument-index c.argument-item.result c.loop-argument-test.true c.argument-item.is in
    let left = c.loop-argument.invariant.left in
    record {
      rest = one_more c.args.output.now c.loop-argument.output c.emit.new.output (arguments c.args.context.now.size (scope_in c.args.context.now) c.args.depth c.args.arguments.now) (arguments c.args.context.now.size (scope_in c.args.context.now) c.args.depth (drop c.loop-argument.argument-index c.args.arguments.now)) (expr_code c.args.context.now.size (scope_in c.args.context.now) true c.args.depth (expr_view c.argument-item.result)) (arguments c.args.context.now.size (scope_in c.args.context.now) c.args.depth (drop (c.loop-argument.argument-index + 1) c.args.arguments.now)) c.loop-argument.invariant.rest is c.in_ok-emit.ensures;
      narrow = left_narrow (arguments c.args.context.now.size (scope_in c.args.context.now) c.args.depth (drop c.loop-argument.argument-index c.args.arguments.now)) (expr_code c.args.context.now.size (scope_in c.args.context.now) true c.args.depth (expr_view c.argument-item.result)) (arguments c.args.context.now.size (scope_in c.args.context.now) c.args.depth (drop (c.loop-argument.argument-index + 1) c.args.arguments.now)) is c.loop-argument.invariant.narrow;
      left = omega arith;
    }

pub emit_arguments-returns : goal.emit_arguments-returns
emit_arguments-returns t c =
    none_left c.args.output.now c.loop-argument.output (arguments c.args.context.now.size (scope_in c.args.context.now) c.args.depth c.args.arguments.now) (arguments c.args.context.now.size (scope_in c.args.context.now) c.args.depth (drop c.loop-argument.argument-index c.args.arguments.now)) c.loop-argument.invariant.rest (no_argument c.args.context.now.size (scope_in c.args.context.now) c.args.depth c.args.arguments.now c.loop-argument.argument-index c.loop-argument-test.false)

pub emit_links-emit-requires : goal.emit_links-emit-requires
emit_links-emit-requires t c =
    let is = operand_left c.args.context.now.size (scope_in c.args.context.now) c.args.depth c.args.links.now c.loop-next.next-index c.next-item.result c.loop-next-test.true c.next-item.is in
    let k = operands_left c.args.links.now c.loop-next.next-index c.next-item.result c.loop-next-test.true c.next-item.is in
    let left = c.loop-next.invariant.left in
    let d0 = c.decreases in
    (omega arith, here_narrow (operands c.args.context.now.size (scope_in c.args.context.now) c.args.depth (drop c.loop-next.next-index c.args.links.now)) (expr_code c.args.context.now.size (scope_in c.args.context.now) true c.args.depth (expr_view c.next-item.result.operand)) ((one (bin32 (link_operator c.next-item.result.minus))) ⊕ (operands c.args.context.now.size (scope_in c.args.context.now) c.args.depth (drop (c.loop-next.next-index + 1) c.args.links.now))) is c.loop-next.invariant.narrow)

pub emit_links-loop-next-preserved : goal.emit_links-loop-next-preserved
emit_links-loop-next-preserved t c =
    let is = operand_left c.args.context.now.size (scope_in c.args.context.now) c.args.depth c.args.links.now c.loop-next.next-index c.next-item.result c.loop-next-test.true c.next-item.is in
    let k = operands_left c.args.links.now c.loop-next.next-index c.next-item.result c.loop-next-test.true c.next-item.is in
    let left = c.loop-next.invariant.left in
    record {
      rest = one_more c.args.output.now c.emit.new.output c.link.new.output (operands c.args.context.now.size (scope_in c.args.context.now) c.args.depth c.args.links.now) ((one (bin32 (link_operator c.next-item.result.minus))) ⊕ (operands c.args.context.now.size (scope_in c.args.context.now) c.args.depth (drop (c.loop-next.next-index + 1) c.args.links.now))) (one (bin32 (link_operator c.next-item.result.minus))) (operands c.args.context.now.size (scope_in c.args.context.now) c.args.depth (drop (c.loop-next.next-index + 1) c.args.links.now)) (one_more c.args.output.now c.loop-next.output c.emit.new.output (operands c.args.context.now.size (scope_in c.args.context.now) c.args.depth c.args.links.now) (operands c.args.context.now.size (scope_in c.args.context.now) c.args.depth (drop c.loop-next.next-index c.args.links.now)) (expr_code c.args.context.now.size (scope_in c.args.context.now) true c.args.depth (expr_view c.next-item.result.operand)) ((one (bin32 (link_operator c.next-item.result.minus))) ⊕ (operands c.args.context.now.size (scope_in c.args.context.now) c.args.depth (drop (c.loop-next.next-index + 1) c.args.links.now))) c.loop-next.invariant.rest is c.in_ok-emit.ensures) refl c.in_ok-link.ensures;
      narrow = second_part IsNarrow (one (bin32 (link_operator c.next-item.result.minus))) (operands c.args.context.now.size (scope_in c.args.context.now) c.args.depth (drop (c.loop-next.next-index + 1) c.args.links.now)) (left_narrow (operands c.args.context.now.size (scope_in c.args.context.now) c.args.depth (drop c.loop-next.next-index c.args.links.now)) (expr_code c.args.context.now.size (scope_in c.args.context.now) true c.args.depth (expr_view c.next-item.result.operand)) ((one (bin32 (link_operator c.next-item.result.minus))) ⊕ (operands c.args.context.now.size (scope_in c.args.context.now) c.args.depth (drop (c.loop-next.next-index + 1) c.args.links.now))) is c.loop-next.invariant.narrow);
      left = omega arith;
    }

pub emit_links-returns : goal.emit_links-returns
emit_links-returns t c =
    none_left c.args.output.now c.loop-next.output (operands c.args.context.now.size (scope_in c.args.context.now) c.args.depth c.args.links.now) (operands c.args.context.now.size (scope_in c.args.context.now) c.args.depth (drop c.loop-next.next-index c.args.links.now)) c.loop-next.invariant.rest (no_operand c.args.context.now.size (scope_in c.args.context.now) c.args.depth c.args.links.now c.loop-next.next-index c.loop-next-test.false)

pub emit_parts-emit-requires : goal.emit_parts-emit-requires
emit_parts-emit-requires t c =
    let more : c.loop-i.i + 1 < length c.args.parts.now = omega arith in
    let within : c.loop-i.i < length c.args.parts.now = omega arith in
    let is = part_left c.args.context.now.size (scope_in c.args.context.now) c.args.depth c.args.parts.now c.loop-i.i c.index-parts-i.result more c.index-parts-i.is in
    let k = nodes_left c.args.parts.now c.loop-i.i c.index-parts-i.result within c.index-parts-i.is in
    let left = c.loop-i.invariant.left in
    let d0 = c.decreases in
    (omega arith, here_narrow (parts c.args.context.now.size (scope_in c.args.context.now) c.args.depth (drop c.loop-i.i c.args.parts.now)) (expr_code c.args.context.now.size (scope_in c.args.context.now) false c.args.depth (expr_view c.index-parts-i.result)) (parts c.args.context.now.size (scope_in c.args.context.now) c.args.depth (drop (c.loop-i.i + 1) c.args.parts.now)) is c.loop-i.invariant.narrow)

pub emit_parts-loop-i-preserved : goal.emit_parts-loop-i-preserved
emit_parts-loop-i-preserved t c =
    let more : c.loop-i.i + 1 < length c.args.parts.now = omega arith in
    let within : c.loop-i.i < length c.args.parts.now = omega arith in
    let is = part_left c.args.context.now.size (scope_in c.args.context.now) c.args.depth c.args.parts.now c.loop-i.i c.index-parts-i.result more c.index-parts-i.is in
    let k = nodes_left c.args.parts.now c.loop-i.i c.index-parts-i.result within c.index-parts-i.is in
    let left = c.loop-i.invariant.left in
    record {
      rest = one_more c.args.output.now c.loop-i.output c.emit.new.output (parts c.args.context.now.size (scope_in c.args.context.now) c.args.depth c.args.parts.now) (parts c.args.context.now.size (scope_in c.args.context.now) c.args.depth (drop c.loop-i.i c.args.parts.now)) (expr_code c.args.context.now.size (scope_in c.args.context.now) false c.args.depth (expr_view c.index-parts-i.result)) (parts c.args.context.now.size (scope_in c.args.context.now) c.args.depth (drop (c.loop-i.i + 1) c.args.parts.now)) c.loop-i.invariant.rest is c.in_ok-emit.ensures;
      narrow = left_narrow (parts c.args.context.now.size (scope_in c.args.context.now) c.args.depth (drop c.loop-i.i c.args.parts.now)) (expr_code c.args.context.now.size (scope_in c.args.context.now) false c.args.depth (expr_view c.index-parts-i.result)) (parts c.args.context.now.size (scope_in c.args.context.now) c.args.depth (drop (c.loop-i.i + 1) c.args.parts.now)) is c.loop-i.invariant.narrow;
      left = omega arith;
    }

pub emit_parts-emit-requires-2 : goal.emit_parts-emit-requires-2
emit_parts-emit-requires-2 t c =
    let ends : c.loop-i.i + 1 ≡ length c.args.parts.now = omega arith in
    let last : length c.args.parts.now - 1 ≡ c.loop-i.i = omega arith in
    let within : c.loop-i.i < length c.args.parts.now = omega arith in
    let at = subst (λ k. c.index-parts-last.result ≡ get_or c.args.parts.now k c.index-parts-last.result) last c.index-parts-last.is in
    let is = last_part c.args.context.now.size (scope_in c.args.context.now) c.args.depth c.args.parts.now c.loop-i.i c.index-parts-last.result ends at in
    let k = nodes_left c.args.parts.now c.loop-i.i c.index-parts-last.result within at in
    let left = c.loop-i.invariant.left in
    let d0 = c.decreases in
    (omega arith, subst (λ x. EachIn IsNarrow x) is c.loop-i.invariant.narrow)

pub emit_parts-returns : goal.emit_parts-returns
emit_parts-returns t c =
    let ends : c.loop-i.i + 1 ≡ length c.args.parts.now = omega arith in
    let last : length c.args.parts.now - 1 ≡ c.loop-i.i = omega arith in
    let at = subst (λ k. c.index-parts-last.result ≡ get_or c.args.parts.now k c.index-parts-last.result) last c.index-parts-last.is in
    let is = last_part c.args.context.now.size (scope_in c.args.context.now) c.args.depth c.args.parts.now c.loop-i.i c.index-parts-last.result ends at in
    on_ok c.emit-2.result (c.emit-2.new.output ≡ c.loop-i.output ++ flat (expr_code c.args.context.now.size (scope_in c.args.context.now) true c.args.depth (expr_view c.index-parts-last.result))) (c.emit-2.new.output ≡ c.args.output.now ++ flat (parts c.args.context.now.size (scope_in c.args.context.now) c.args.depth c.args.parts.now)) (λ h. h ∙ ap (λ (x : Trees). c.loop-i.output ++ flat x) (sym is) ∙ c.loop-i.invariant.rest) c.emit-2.ensures

pub emit_parts-loop-i-init : goal.emit_parts-loop-i-init
emit_parts-loop-i-init t c =
    record { rest = refl; narrow = c.requires.narrow; left = omega arith }

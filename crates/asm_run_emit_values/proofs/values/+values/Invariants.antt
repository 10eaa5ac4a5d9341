-- What a pass from the last item to the first keeps: the code so far is that of the items passed, before what was there.
use Rattle.std.proofs.Common.{◌≡◌, ◌+◌, ◌*◌, ◌≤◌, length, drop}
use Rattle.asm_tree.specs.Views.{expr_view, exprs_view, links_view}
use Rattle.asm_lang_valid.specs.Rows.{expr_count, exprs_count, links_count}
use Rattle.asm_run_code.specs.Values.{arguments, sums, last}
use Rattle.asm_run_names.specs.Names.{scope_said}
use Rattle.asm_run_emit_values.specs.Pieces.{sum_before}
use Rattle.asm_run_emit_values.proofs.values.+values.Given as goal

abbrev pub invariant-emit_arguments-loop-i : goal.invariant-emit_arguments-loop-i
invariant-emit_arguments-loop-i l = record {
  within : l.i ≤ length l.all;
  made : l.output ≡ arguments (scope_said l.names) (l.free + l.i) (exprs_view (drop l.i l.all)) l.initial.output;
}

abbrev pub decreases-emit_arguments-loop-i : goal.decreases-emit_arguments-loop-i
decreases-emit_arguments-loop-i l = l.i

abbrev pub invariant-emit_links-loop-i : goal.invariant-emit_links-loop-i
invariant-emit_links-loop-i l = record {
  within : l.i ≤ length l.links;
  made : l.output ≡ sums (scope_said l.names) l.wanted (sum_before l.i l.slot l.free) l.free (links_view (drop l.i l.links)) l.initial.output;
}

abbrev pub decreases-emit_links-loop-i : goal.decreases-emit_links-loop-i
decreases-emit_links-loop-i l = l.i

abbrev pub invariant-emit_parts-loop-i : goal.invariant-emit_parts-loop-i
invariant-emit_parts-loop-i l = record {
  within : l.i ≤ length l.parts;
  made : l.output ≡ last (scope_said l.names) l.wanted l.free (exprs_view (drop l.i l.parts)) l.initial.output;
}

abbrev pub decreases-emit_parts-loop-i : goal.decreases-emit_parts-loop-i
decreases-emit_parts-loop-i l = l.i

-- ---- each call is of a smaller expression, or of the same one by a lower function

abbrev pub decreases-emit_value : goal.decreases-emit_value
decreases-emit_value l = 8 * expr_count (expr_view l.expr.now)

abbrev pub decreases-emit_operand : goal.decreases-emit_operand
decreases-emit_operand l = 8 * expr_count (expr_view l.operand.now) + 1

abbrev pub decreases-emit_single : goal.decreases-emit_single
decreases-emit_single l = 8 * expr_count (expr_view l.operand.now) + 2

abbrev pub decreases-emit_index : goal.decreases-emit_index
decreases-emit_index l = 8 * expr_count (expr_view l.index.now) + 3

abbrev pub decreases-emit_call : goal.decreases-emit_call
decreases-emit_call l = 8 * exprs_count (exprs_view l.all.now) + 6

abbrev pub decreases-emit_builtin : goal.decreases-emit_builtin
decreases-emit_builtin l = 8 * exprs_count (exprs_view l.all.now) + 5

abbrev pub decreases-emit_arguments : goal.decreases-emit_arguments
decreases-emit_arguments l = 8 * exprs_count (exprs_view l.all.now) + 2

abbrev pub decreases-emit_table_call : goal.decreases-emit_table_call
decreases-emit_table_call l = 8 * (expr_count (expr_view l.index.now) + exprs_count (exprs_view l.all.now)) + 3

abbrev pub decreases-emit_assign : goal.decreases-emit_assign
decreases-emit_assign l = 8 * expr_count (expr_view l.value.now) + 3

abbrev pub decreases-emit_store : goal.decreases-emit_store
decreases-emit_store l = 8 * (expr_count (expr_view l.index.now) + expr_count (expr_view l.value.now)) + 4

abbrev pub decreases-emit_unary : goal.decreases-emit_unary
decreases-emit_unary l = 8 * expr_count (expr_view l.operand.now) + 3

abbrev pub decreases-emit_combined : goal.decreases-emit_combined
decreases-emit_combined l = 8 * (expr_count (expr_view l.left.now) + expr_count (expr_view l.right.now)) + 3

abbrev pub decreases-emit_chain : goal.decreases-emit_chain
decreases-emit_chain l = 8 * (expr_count (expr_view l.first.now) + links_count (links_view l.links.now)) + 4

abbrev pub decreases-emit_links : goal.decreases-emit_links
decreases-emit_links l = 8 * links_count (links_view l.links.now) + 3

abbrev pub decreases-emit_link : goal.decreases-emit_link
decreases-emit_link l = 8 * expr_count (expr_view l.link.now.operand) + 2

abbrev pub decreases-emit_cond : goal.decreases-emit_cond
decreases-emit_cond l = 8 * (expr_count (expr_view l.condition.now) + (expr_count (expr_view l.yes.now) + expr_count (expr_view l.no.now))) + 4

abbrev pub decreases-emit_test : goal.decreases-emit_test
decreases-emit_test l = 8 * expr_count (expr_view l.condition.now) + 3

abbrev pub decreases-emit_parts : goal.decreases-emit_parts
decreases-emit_parts l = 8 * exprs_count (exprs_view l.parts.now) + 2

abbrev pub decreases-emit_product : goal.decreases-emit_product
decreases-emit_product l = 8 * exprs_count (exprs_view l.all.now) + 4

abbrev pub decreases-emit_zeros : goal.decreases-emit_zeros
decreases-emit_zeros l = 8 * exprs_count (exprs_view l.all.now) + 4

abbrev pub decreases-emit_binary : goal.decreases-emit_binary
decreases-emit_binary l = 8 * (expr_count (expr_view l.left.now) + expr_count (expr_view l.right.now)) + 4

abbrev pub decreases-emit_next : goal.decreases-emit_next
decreases-emit_next l = 8 * expr_count (expr_view l.operand.now) + 1

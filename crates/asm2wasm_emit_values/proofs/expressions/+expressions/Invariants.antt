-- What a pass over a list keeps: what was given, and the code of what is left, are the code of all.
use Rattle.std.proofs.Common.{◌≡◌, ◌+◌, ◌*◌, ◌≤◌, ◌++◌, drop}
use Rattle.wasm_laws_trees.specs.Spelled.{flat}
use Rattle.wasm_laws_write.specs.Lengths.{IsNarrow}
use Rattle.wasm_laws_write.specs.Each.{EachIn}
use Rattle.asm_tree.specs.Views.{expr_view, exprs_view, links_view}
use Rattle.asm_lang_valid.specs.Rows.{expr_count, exprs_count, links_count}
use Rattle.asm_validate_limits.proofs.Parts.{nodes_in, nodes_of}
use Rattle.asm2wasm_emit_values.specs.Contexts.{scope_in}
use Rattle.asm2wasm_emit_values.proofs.Lists.{arguments, operands, parts}
use Rattle.asm2wasm_emit_values.proofs.expressions.+expressions.Given as goal

abbrev pub invariant-emit_arguments-loop-argument : goal.invariant-emit_arguments-loop-argument
invariant-emit_arguments-loop-argument l = record {
  rest : l.output ++ flat (arguments l.context.size (scope_in l.context) l.depth (drop l.argument-index l.arguments)) ≡ l.initial.output ++ flat (arguments l.context.size (scope_in l.context) l.depth l.arguments);
  narrow : EachIn IsNarrow (arguments l.context.size (scope_in l.context) l.depth (drop l.argument-index l.arguments));
  left : nodes_in (drop l.argument-index l.arguments) ≤ nodes_in l.arguments;
}

abbrev pub invariant-emit_links-loop-next : goal.invariant-emit_links-loop-next
invariant-emit_links-loop-next l = record {
  rest : l.output ++ flat (operands l.context.size (scope_in l.context) l.depth (drop l.next-index l.links)) ≡ l.initial.output ++ flat (operands l.context.size (scope_in l.context) l.depth l.links);
  narrow : EachIn IsNarrow (operands l.context.size (scope_in l.context) l.depth (drop l.next-index l.links));
  left : nodes_of (drop l.next-index l.links) ≤ nodes_of l.links;
}

abbrev pub invariant-emit_parts-loop-i : goal.invariant-emit_parts-loop-i
invariant-emit_parts-loop-i l = record {
  rest : l.output ++ flat (parts l.context.size (scope_in l.context) l.depth (drop l.i l.parts)) ≡ l.initial.output ++ flat (parts l.context.size (scope_in l.context) l.depth l.parts);
  narrow : EachIn IsNarrow (parts l.context.size (scope_in l.context) l.depth (drop l.i l.parts));
  left : nodes_in (drop l.i l.parts) ≤ nodes_in l.parts;
}

abbrev pub decreases-emit : goal.decreases-emit
decreases-emit l = 4 * expr_count (expr_view l.expr.now)

abbrev pub decreases-emit_index : goal.decreases-emit_index
decreases-emit_index l = 4 * expr_count (expr_view l.index.now) + 3

abbrev pub decreases-emit_place : goal.decreases-emit_place
decreases-emit_place l = 4 * expr_count (expr_view l.index.now) + 2

abbrev pub decreases-emit_call : goal.decreases-emit_call
decreases-emit_call l = 4 * exprs_count (exprs_view l.arguments.now) + 3

abbrev pub decreases-emit_table_call : goal.decreases-emit_table_call
decreases-emit_table_call l = 4 * (expr_count (expr_view l.index.now) + exprs_count (exprs_view l.arguments.now)) + 3

abbrev pub decreases-emit_store : goal.decreases-emit_store
decreases-emit_store l = 4 * (expr_count (expr_view l.index.now) + expr_count (expr_view l.value.now)) + 3

abbrev pub decreases-emit_unary : goal.decreases-emit_unary
decreases-emit_unary l = 4 * expr_count (expr_view l.operand.now) + 3

abbrev pub decreases-emit_binary : goal.decreases-emit_binary
decreases-emit_binary l = 4 * (expr_count (expr_view l.left.now) + expr_count (expr_view l.right.now)) + 3

abbrev pub decreases-emit_chain : goal.decreases-emit_chain
decreases-emit_chain l = 4 * (expr_count (expr_view l.first.now) + links_count (links_view l.links.now)) + 3

abbrev pub decreases-emit_cond : goal.decreases-emit_cond
decreases-emit_cond l = 4 * (expr_count (expr_view l.condition.now) + (expr_count (expr_view l.yes.now) + expr_count (expr_view l.no.now))) + 3

abbrev pub decreases-emit_comma : goal.decreases-emit_comma
decreases-emit_comma l = 4 * exprs_count (exprs_view l.parts.now) + 3

abbrev pub decreases-emit_parts : goal.decreases-emit_parts
decreases-emit_parts l = 4 * exprs_count (exprs_view l.parts.now) + 2

abbrev pub decreases-emit_arguments : goal.decreases-emit_arguments
decreases-emit_arguments l = 4 * exprs_count (exprs_view l.arguments.now) + 2

abbrev pub decreases-emit_links : goal.decreases-emit_links
decreases-emit_links l = 4 * links_count (links_view l.links.now) + 2

use Rattle.std.proofs.Common.{◌≡◌, ◌+◌, ◌*◌, ◌≤◌, drop}
use Rattle.asm_tree.specs.Views.{expr_view, exprs_view, links_view}
use Rattle.asm_lang_valid.specs.Rows.{expr_count, exprs_count, links_count}
use Rattle.asm_names.specs.Scopes.{scope_view}
use Rattle.asm_validate_limits.specs.Passes.{IsOf}
use Rattle.asm_validate_limits.proofs.Lists.{Completes}
use Rattle.asm_validate_limits.proofs.Parts.{arguments_marks, operands_marks, parts_marks, nodes_in, nodes_of}
use Rattle.asm_validate_limits.proofs.expressions.+expressions.Given as goal

abbrev pub invariant-exprs_limits-loop-expr : goal.invariant-exprs_limits-loop-expr
invariant-exprs_limits-loop-expr l = record {
  rest : Completes (arguments_marks (scope_view l.scope) l.exprs l.initial.tally.at) (nodes_in l.exprs) l.initial.tally (arguments_marks (scope_view l.scope) (drop l.expr-index l.exprs) l.tally.at) (nodes_in (drop l.expr-index l.exprs)) l.tally;
  left : nodes_in (drop l.expr-index l.exprs) ≤ nodes_in l.exprs;
  counted : l.tally.at + nodes_in (drop l.expr-index l.exprs) ≡ l.initial.tally.at + nodes_in l.exprs;
  of : IsOf (scope_view l.scope).home l.tally;
}

abbrev pub invariant-links_limits-loop-link : goal.invariant-links_limits-loop-link
invariant-links_limits-loop-link l = record {
  rest : Completes (operands_marks (scope_view l.scope) l.links l.initial.tally.at) (nodes_of l.links) l.initial.tally (operands_marks (scope_view l.scope) (drop l.link-index l.links) l.tally.at) (nodes_of (drop l.link-index l.links)) l.tally;
  left : nodes_of (drop l.link-index l.links) ≤ nodes_of l.links;
  counted : l.tally.at + nodes_of (drop l.link-index l.links) ≡ l.initial.tally.at + nodes_of l.links;
  of : IsOf (scope_view l.scope).home l.tally;
}

abbrev pub invariant-comma_limits-loop-i : goal.invariant-comma_limits-loop-i
invariant-comma_limits-loop-i l = record {
  rest : Completes (parts_marks (scope_view l.scope) l.parts l.initial.tally.at) (nodes_in l.parts) l.initial.tally (parts_marks (scope_view l.scope) (drop l.i l.parts) l.tally.at) (nodes_in (drop l.i l.parts)) l.tally;
  left : nodes_in (drop l.i l.parts) ≤ nodes_in l.parts;
  counted : l.tally.at + nodes_in (drop l.i l.parts) ≡ l.initial.tally.at + nodes_in l.parts;
  of : IsOf (scope_view l.scope).home l.tally;
}

abbrev pub decreases-expr_limits : goal.decreases-expr_limits
decreases-expr_limits l = 4 * expr_count (expr_view l.expr.now)

abbrev pub decreases-placed_limits : goal.decreases-placed_limits
decreases-placed_limits l = 4 * expr_count (expr_view l.expr.now) + 1

abbrev pub decreases-both_limits : goal.decreases-both_limits
decreases-both_limits l = 4 * (expr_count (expr_view l.left.now) + expr_count (expr_view l.right.now)) + 2

abbrev pub decreases-binary_limits : goal.decreases-binary_limits
decreases-binary_limits l = 4 * (expr_count (expr_view l.left.now) + expr_count (expr_view l.right.now)) + 2

abbrev pub decreases-cond_limits : goal.decreases-cond_limits
decreases-cond_limits l = 4 * (expr_count (expr_view l.condition.now) + (expr_count (expr_view l.yes.now) + expr_count (expr_view l.no.now))) + 3

abbrev pub decreases-indexed_limits : goal.decreases-indexed_limits
decreases-indexed_limits l = 4 * (expr_count (expr_view l.index.now) + exprs_count (exprs_view l.arguments.now)) + 3

abbrev pub decreases-chain_limits : goal.decreases-chain_limits
decreases-chain_limits l = 4 * (expr_count (expr_view l.first.now) + links_count (links_view l.links.now)) + 3

abbrev pub decreases-exprs_limits : goal.decreases-exprs_limits
decreases-exprs_limits l = 4 * exprs_count (exprs_view l.exprs.now) + 2

abbrev pub decreases-links_limits : goal.decreases-links_limits
decreases-links_limits l = 4 * links_count (links_view l.links.now) + 2

abbrev pub decreases-comma_limits : goal.decreases-comma_limits
decreases-comma_limits l = 4 * exprs_count (exprs_view l.parts.now) + 2

abbrev pub decreases-direct_limits : goal.decreases-direct_limits
decreases-direct_limits l = 4 * exprs_count (exprs_view l.arguments.now) + 3

use Rattle.std.proofs.Common.{◌≡◌, ◌+◌, ◌*◌, ◌≤◌, drop}
use Rattle.asm_tree.specs.Views.{expr_view, exprs_view, links_view}
use Rattle.asm_lang_valid.specs.Rows.{first, expr_count, exprs_count, links_count}
use Rattle.asm_lang_valid.specs.NameRows as rows
use Rattle.asm_names.specs.Scopes.{scope_view}
use Rattle.asm_validate_names.proofs.expressions.+expressions.Given as goal

abbrev pub invariant-exprs_names-loop-expr : goal.invariant-exprs_names-loop-expr
invariant-exprs_names-loop-expr l = record {
  rest : first (rows.exprs_names (scope_view l.scope) l.initial.at (exprs_view l.exprs)) ≡ first (rows.exprs_names (scope_view l.scope) l.at (exprs_view (drop l.expr-index l.exprs)));
  left : exprs_count (exprs_view (drop l.expr-index l.exprs)) ≤ exprs_count (exprs_view l.exprs);
  counted : l.at + exprs_count (exprs_view (drop l.expr-index l.exprs)) ≡ l.initial.at + exprs_count (exprs_view l.exprs);
}

abbrev pub invariant-links_names-loop-link : goal.invariant-links_names-loop-link
invariant-links_names-loop-link l = record {
  rest : first (rows.links_names (scope_view l.scope) l.initial.at (links_view l.links)) ≡ first (rows.links_names (scope_view l.scope) l.at (links_view (drop l.link-index l.links)));
  left : links_count (links_view (drop l.link-index l.links)) ≤ links_count (links_view l.links);
  counted : l.at + links_count (links_view (drop l.link-index l.links)) ≡ l.initial.at + links_count (links_view l.links);
}

abbrev pub decreases-expr_names : goal.decreases-expr_names
decreases-expr_names l = 2 * expr_count (expr_view l.expr.now)

abbrev pub decreases-exprs_names : goal.decreases-exprs_names
decreases-exprs_names l = 2 * exprs_count (exprs_view l.exprs.now) + 1

abbrev pub decreases-links_names : goal.decreases-links_names
decreases-links_names l = 2 * links_count (links_view l.links.now) + 1

use Rattle.std.proofs.Common.{◌≡◌, ◌+◌, ◌*◌, ◌≤◌, ◌<◌, ◌^◌, drop}
use Rattle.asm_tree.specs.Views.{expr_view, exprs_view, links_view}
use Rattle.asm_lang_valid.specs.Rows.{expr_count, exprs_count, links_count}
use Rattle.asm_validate_nodes.proofs.counting.+expressions.Given as goal

abbrev pub invariant-count_exprs-loop-expr : goal.invariant-count_exprs-loop-expr
invariant-count_exprs-loop-expr l = record {
  left : exprs_count (exprs_view (drop l.expr-index l.exprs)) ≤ exprs_count (exprs_view l.exprs);
  counted : l.at + exprs_count (exprs_view (drop l.expr-index l.exprs)) ≡ l.before + exprs_count (exprs_view l.exprs);
  held : l.at < 2 ^ 64;
}

abbrev pub invariant-count_links-loop-link : goal.invariant-count_links-loop-link
invariant-count_links-loop-link l = record {
  left : links_count (links_view (drop l.link-index l.links)) ≤ links_count (links_view l.links);
  counted : l.at + links_count (links_view (drop l.link-index l.links)) ≡ l.before + links_count (links_view l.links);
  held : l.at < 2 ^ 64;
}

abbrev pub decreases-count_expr : goal.decreases-count_expr
decreases-count_expr l = 2 * expr_count (expr_view l.expr.now)

abbrev pub decreases-count_exprs : goal.decreases-count_exprs
decreases-count_exprs l = 2 * exprs_count (exprs_view l.exprs.now) + 1

abbrev pub decreases-count_links : goal.decreases-count_links
decreases-count_links l = 2 * links_count (links_view l.links.now) + 1

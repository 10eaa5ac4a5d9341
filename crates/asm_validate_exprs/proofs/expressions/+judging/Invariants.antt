use Rattle.std.proofs.Common.{◌≡◌, ◌+◌, ◌*◌, ◌≤◌, ◌&&◌, length, drop}
use Rattle.asm_types.specs.declared.value_type.ValueType.TheVariants.{Int, Extern}
use Rattle.asm_tree.specs.Views.{expr_view, exprs_view, links_view}
use Rattle.asm_lang_valid.specs.Rows.{first, expr_count, exprs_count, links_count}
use Rattle.asm_lang_valid.specs.Typing.{all_below, links_fit, last_type}
use Rattle.asm_lang_valid.specs.TypeRows as rows
use Rattle.asm_names.specs.Scopes.{scope_view}
use Rattle.asm_validate_exprs.proofs.expressions.+judging.Given as goal

abbrev pub invariant-judge_all-loop-expr : goal.invariant-judge_all-loop-expr
invariant-judge_all-loop-expr l = record {
  rest : first (rows.exprs_rows (scope_view l.context.scope) l.initial.at (exprs_view l.exprs)) ≡ first (rows.exprs_rows (scope_view l.context.scope) l.at (exprs_view (drop l.expr-index l.exprs)));
  count : l.known.count ≡ length l.exprs;
  ints : (l.known.ints && all_below (scope_view l.context.scope) Int (exprs_view (drop l.expr-index l.exprs))) ≡ all_below (scope_view l.context.scope) Int (exprs_view l.exprs);
  externs : (l.known.externs && all_below (scope_view l.context.scope) Extern (exprs_view (drop l.expr-index l.exprs))) ≡ all_below (scope_view l.context.scope) Extern (exprs_view l.exprs);
  left : exprs_count (exprs_view (drop l.expr-index l.exprs)) ≤ exprs_count (exprs_view l.exprs);
  counted : l.at + exprs_count (exprs_view (drop l.expr-index l.exprs)) ≡ l.initial.at + exprs_count (exprs_view l.exprs);
}

abbrev pub invariant-judge_links-loop-link : goal.invariant-judge_links-loop-link
invariant-judge_links-loop-link l = record {
  rest : first (rows.links_rows (scope_view l.context.scope) l.initial.at (links_view l.links)) ≡ first (rows.links_rows (scope_view l.context.scope) l.at (links_view (drop l.link-index l.links)));
  count : l.known.count ≡ length l.links;
  ints : (l.known.ints && links_fit (scope_view l.context.scope) (links_view (drop l.link-index l.links))) ≡ links_fit (scope_view l.context.scope) (links_view l.links);
  left : links_count (links_view (drop l.link-index l.links)) ≤ links_count (links_view l.links);
  counted : l.at + links_count (links_view (drop l.link-index l.links)) ≡ l.initial.at + links_count (links_view l.links);
}

abbrev pub invariant-judge_comma-loop-i : goal.invariant-judge_comma-loop-i
invariant-judge_comma-loop-i l = record {
  rest : first (rows.comma_rows (scope_view l.context.scope) l.initial.at (exprs_view l.parts)) ≡ first (rows.comma_rows (scope_view l.context.scope) l.at (exprs_view (drop l.i l.parts)));
  last : last_type (scope_view l.context.scope) (exprs_view l.parts) ≡ last_type (scope_view l.context.scope) (exprs_view (drop l.i l.parts));
  left : exprs_count (exprs_view (drop l.i l.parts)) ≤ exprs_count (exprs_view l.parts);
  counted : l.at + exprs_count (exprs_view (drop l.i l.parts)) ≡ l.initial.at + exprs_count (exprs_view l.parts);
}

abbrev pub decreases-judge : goal.decreases-judge
decreases-judge l = 8 * expr_count (expr_view l.expr.now)

abbrev pub decreases-judge_store : goal.decreases-judge_store
decreases-judge_store l = 8 * (expr_count (expr_view l.index.now) + expr_count (expr_view l.value.now)) + 7

abbrev pub decreases-judge_binary : goal.decreases-judge_binary
decreases-judge_binary l = 8 * (expr_count (expr_view l.left.now) + expr_count (expr_view l.right.now)) + 7

abbrev pub decreases-judge_chain : goal.decreases-judge_chain
decreases-judge_chain l = 8 * (expr_count (expr_view l.head.now) + links_count (links_view l.links.now)) + 7

abbrev pub decreases-judge_cond : goal.decreases-judge_cond
decreases-judge_cond l = 8 * (expr_count (expr_view l.condition.now) + (expr_count (expr_view l.yes.now) + expr_count (expr_view l.no.now))) + 7

abbrev pub decreases-judge_comma : goal.decreases-judge_comma
decreases-judge_comma l = 8 * exprs_count (exprs_view l.parts.now) + 7

abbrev pub decreases-judge_all : goal.decreases-judge_all
decreases-judge_all l = 8 * exprs_count (exprs_view l.exprs.now) + 1

abbrev pub decreases-judge_links : goal.decreases-judge_links
decreases-judge_links l = 8 * links_count (links_view l.links.now) + 1

abbrev pub decreases-judge_effect : goal.decreases-judge_effect
decreases-judge_effect l = 8 * expr_count (expr_view l.expr.now) + 6

abbrev pub decreases-judge_call : goal.decreases-judge_call
decreases-judge_call l = 8 * expr_count (expr_view l.call.now) + 5

use Rattle.std.proofs.Common.{◌≡◌, ◌++◌, take}
use Rattle.asm_tree.specs.Views.{exprs_view, links_view}
use Rattle.asm_short_lang.specs.Uses.{exprs_uses, links_uses}
use Rattle.asm_short_uses.specs.Views.{uses_view}
use Rattle.asm_short_uses.proofs.expressions.+expr.Given as goal

abbrev pub invariant-add_exprs-loop-expr : goal.invariant-add_exprs-loop-expr
invariant-add_exprs-loop-expr l = uses_view l.uses.items ≡ uses_view l.initial.uses.items ++ exprs_uses (exprs_view (take l.expr-index l.exprs))

abbrev pub invariant-add_links-loop-link : goal.invariant-add_links-loop-link
invariant-add_links-loop-link l = uses_view l.uses.items ≡ uses_view l.initial.uses.items ++ links_uses (links_view (take l.link-index l.links))

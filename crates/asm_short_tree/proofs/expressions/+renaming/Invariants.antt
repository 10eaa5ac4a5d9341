use Rattle.std.proofs.Common.{◌≡◌, map, take}
use Rattle.sem_words.specs.Lists.{list_items}
use Rattle.asm_tree.specs.Views.{expr_view, link_view}
use Rattle.asm_short_tree.specs.Looking.{look_by}
use Rattle.asm_short_tree.proofs.Copied.{expr_copy, link_copy}
use Rattle.asm_short_tree.proofs.expressions.+renaming.Given as goal

abbrev pub invariant-renamed_exprs-loop-expr : goal.invariant-renamed_exprs-loop-expr
invariant-renamed_exprs-loop-expr l = map expr_view (list_items l.list) ≡ map (expr_copy (look_by l.look)) (take l.expr-index l.exprs)

abbrev pub invariant-renamed_links-loop-link : goal.invariant-renamed_links-loop-link
invariant-renamed_links-loop-link l = map link_view (list_items l.list) ≡ map (link_copy (look_by l.look)) (take l.link-index l.links)

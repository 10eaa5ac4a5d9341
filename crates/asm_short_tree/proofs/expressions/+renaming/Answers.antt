use Rattle.std.proofs.Common.{refl, arith}
use Rattle.sem_words.specs.Lists.{list_items}
use Rattle.asm_tree.specs.Views.{expr_view, link_view}
use Rattle.asm_short_tree.specs.Looking.{look_by}
use Rattle.asm_short_tree.proofs.Copied.{one_copied, all_copied, expr_copy, exprs_copied, link_copy, links_copied, link_is}
use Rattle.asm_short_tree.proofs.expressions.+renaming.Goals as goal

pub renamed_exprs-returns : goal.renamed_exprs-returns
renamed_exprs-returns t c =
    let l = c.loop-expr in
    let look = look_by c.args.look.now in
    exprs_copied look (list_items l.list) c.args.exprs.now (all_copied (expr_copy look) _ c.args.exprs.now l.expr-index c.loop-expr-test.false l.invariant)

pub renamed_links-loop-link-preserved : goal.renamed_links-loop-link-preserved
renamed_links-loop-link-preserved t c =
    let l = c.loop-link in
    let x = c.link-item.result in
    let look = look_by c.args.look.now in
    let y = record x { operand = c.in_ok-operand.operand } in
    one_copied link_view (link_copy look) (list_items l.list) (list_items c.in_ok-list.list) c.args.links.now l.link-index x y c.loop-link-test.true c.link-item.is c.in_ok-list.ensures (link_is look x y refl c.in_ok-operand.ensures) l.invariant

pub renamed_links-returns : goal.renamed_links-returns
renamed_links-returns t c =
    let l = c.loop-link in
    let look = look_by c.args.look.now in
    links_copied look (list_items l.list) c.args.links.now (all_copied (link_copy look) _ c.args.links.now l.link-index c.loop-link-test.false l.invariant)

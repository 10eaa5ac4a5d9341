use Rattle.std.proofs.Common.{rules, ◌≡◌, ◌∙◌}
use Rattle.asm_lang.specs.Trees.{binary}
use Rattle.asm_grammar_nodes.specs.Rises.{rise_view}
use Rattle.asm_grammar_nodes.specs.Views.{expr_view}
use Rattle.asm_grammar_nodes.proofs.Levels.{binary_count}
use Rattle.asm_grammar_nodes.proofs.tall.TallExpr.binary.Goals as goal

pub boxed-requires : goal.boxed-requires
boxed-requires c =
    let a = c.args in
    let left = expr_view a.left.tree.value in
    let right = expr_view a.right.tree.value in
    let is : expr_view c.in_ok-tree.tree ≡ binary a.at left a.operator right = search rules in
    let r = rise_view c.second_operand.result in
    record { high = c.risen-height.ensures ∙ binary_count a.at left a.operator right (expr_view c.in_ok-tree.tree) r a.right.height.count is c.second_operand.ensures a.right.high }

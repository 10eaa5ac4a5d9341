use Rattle.std.proofs.Common.{rules, ◌≡◌, ◌++◌, ◌∷◌, [], map, reverse, sym, ap, ◌∙◌}
use Rattle.sem_words.specs.Lists.{list_items}
use Rattle.asm_lang.specs.Modules.{stmts_of}
use Rattle.asm_grammar_nodes.specs.Views as placed
use Rattle.asm_tree.specs.Views as plain
use Rattle.asm_grammar_erase.proofs.StmtErasing.{stmts_before, stmts_none, stmt_popped}
use Rattle.asm_grammar_erase.proofs.statements.used_stmts.Goals as goal

pub loop-tree-preserved : goal.loop-tree-preserved
loop-tree-preserved c =
    let l = c.loop-tree in
    let popped : l.left.items ≡ c.last_taken.new.left.items ++ c.in-Some.tree ∷ [] = search rules in
    stmt_popped (list_items l.stmts) (list_items c.in_ok-stmts.stmts) l.left.items c.last_taken.new.left.items c.in-Some.tree c.in_ok-stmt.stmt (stmts_of (placed.stmts_view (list_items c.args.trees))) popped c.in_ok-stmts.ensures c.in_ok-stmt.ensures l.invariant

pub returns : goal.returns
returns c =
    let l = c.loop-tree in
    let none : l.left.items ≡ [] = search rules in
    sym (stmts_none (list_items l.stmts)) ∙ ap (λ xs. stmts_before (map plain.stmt_view (list_items l.stmts)) (stmts_of (placed.stmts_view (reverse xs)))) (sym none) ∙ l.invariant

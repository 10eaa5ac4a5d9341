use Rattle.std.proofs.Common.{◌≡◌, length, map, reverse}
use Rattle.sem_words.specs.Lists.{list_items}
use Rattle.asm_lang.specs.Modules.{stmts_of}
use Rattle.asm_grammar_nodes.specs.Views as placed
use Rattle.asm_tree.specs.Views as plain
use Rattle.asm_grammar_erase.proofs.StmtErasing.{stmts_before}
use Rattle.asm_grammar_erase.proofs.statements.used_stmts.Given as goal

abbrev pub invariant-loop-tree : goal.invariant-loop-tree
invariant-loop-tree l = stmts_before (map plain.stmt_view (list_items l.stmts)) (stmts_of (placed.stmts_view (reverse l.left.items))) ≡ stmts_of (placed.stmts_view (list_items l.fn.trees))

abbrev pub decreases-loop-tree : goal.decreases-loop-tree
decreases-loop-tree l = length l.left.items

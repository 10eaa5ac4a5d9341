use Rattle.std.proofs.Common.{◌≡◌, drop, map}
use Rattle.sem_words.specs.Lists.{list_items}
use Rattle.asm_lang.specs.Modules.{exprs_of}
use Rattle.asm_grammar_nodes.specs.Views as placed
use Rattle.asm_tree.specs.Views as plain
use Rattle.asm_grammar_erase.specs.Parts.{links_on}
use Rattle.asm_grammar_erase.proofs.Erasing.{before}
use Rattle.asm_grammar_erase.proofs.expressions.+erasing.Given as goal

abbrev pub invariant-erased_exprs-loop-tree : goal.invariant-erased_exprs-loop-tree
invariant-erased_exprs-loop-tree l = before (map plain.expr_view (list_items l.exprs)) (exprs_of (placed.exprs_view (drop l.tree-index l.trees))) ≡ exprs_of (placed.exprs_view l.trees)

abbrev pub invariant-erased_sum-loop-addend : goal.invariant-erased_sum-loop-addend
invariant-erased_sum-loop-addend l = links_on (plain.expr_view l.sum) (map placed.addend_view (drop l.addend-index l.others)) ≡ links_on (plain.expr_view l.fn.first.value) (map placed.addend_view l.others)

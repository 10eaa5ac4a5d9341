use Rattle.std.proofs.Common.{◌≡◌, drop, map}
use Rattle.sem_words.specs.Lists.{list_items}
use Rattle.asm_lang.specs.Modules.{stmts_of, clauses_of}
use Rattle.asm_grammar_nodes.specs.Views as placed
use Rattle.asm_tree.specs.Views as plain
use Rattle.asm_grammar_erase.proofs.StmtErasing.{stmts_before, clauses_before}
use Rattle.asm_grammar_erase.proofs.statements.+erasing.Given as goal

abbrev pub invariant-erased_stmts-loop-tree : goal.invariant-erased_stmts-loop-tree
invariant-erased_stmts-loop-tree l = stmts_before (map plain.stmt_view (list_items l.stmts)) (stmts_of (placed.stmts_view (drop l.tree-index l.trees))) ≡ stmts_of (placed.stmts_view l.trees)

abbrev pub invariant-erased_clauses-loop-tree : goal.invariant-erased_clauses-loop-tree
invariant-erased_clauses-loop-tree l = clauses_before (map plain.clause_view (list_items l.clauses)) (clauses_of (placed.clauses_view (drop l.tree-index l.trees))) ≡ clauses_of (placed.clauses_view l.trees)

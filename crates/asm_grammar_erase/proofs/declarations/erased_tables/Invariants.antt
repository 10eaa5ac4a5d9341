use Rattle.std.proofs.Common.{◌≡◌, ◌++◌, drop, map}
use Rattle.sem_words.specs.Lists.{list_items}
use Rattle.asm_lang.specs.Modules.{table_of}
use Rattle.asm_grammar_nodes.specs.Views as placed
use Rattle.asm_tree.specs.Views as plain
use Rattle.asm_grammar_erase.proofs.declarations.erased_tables.Given as goal

abbrev pub invariant-loop-tree : goal.invariant-loop-tree
invariant-loop-tree l = map plain.table_view (list_items l.tables) ++ map table_of (map placed.table_view (drop l.tree-index l.trees)) ≡ map table_of (map placed.table_view l.trees)

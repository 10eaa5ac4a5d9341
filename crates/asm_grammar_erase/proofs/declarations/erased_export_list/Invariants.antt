use Rattle.std.proofs.Common.{◌≡◌, ◌++◌, drop, map}
use Rattle.sem_words.specs.Lists.{list_items}
use Rattle.asm_lang.specs.Modules.{export_of}
use Rattle.asm_grammar_nodes.specs.Views as placed
use Rattle.asm_tree.specs.Views as plain
use Rattle.asm_grammar_erase.proofs.declarations.erased_export_list.Given as goal

abbrev pub invariant-loop-tree : goal.invariant-loop-tree
invariant-loop-tree l = map plain.export_view (list_items l.exports) ++ map export_of (map placed.export_view (drop l.tree-index l.trees)) ≡ map export_of (map placed.export_view l.trees)

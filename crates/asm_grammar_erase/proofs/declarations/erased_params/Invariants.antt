use Rattle.std.proofs.Common.{◌≡◌, ◌++◌, drop, map}
use Rattle.sem_words.specs.Lists.{list_items}
use Rattle.asm_lang.specs.Modules.{param_of}
use Rattle.asm_grammar_nodes.specs.Views as placed
use Rattle.asm_tree.specs.Views as plain
use Rattle.asm_grammar_erase.proofs.declarations.erased_params.Given as goal

abbrev pub invariant-loop-tree : goal.invariant-loop-tree
invariant-loop-tree l = map plain.param_view (list_items l.params) ++ map param_of (map placed.param_view (drop l.tree-index l.trees)) ≡ map param_of (map placed.param_view l.trees)

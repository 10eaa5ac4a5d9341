use Rattle.std.proofs.Common.{◌≡◌, ◌++◌, drop, map}
use Rattle.sem_words.specs.Lists.{list_items}
use Rattle.asm_lang.specs.Modules.{variables_places}
use Rattle.asm_grammar_nodes.specs.Views.{variable_view}
use Rattle.asm_grammar_places.proofs.modules.variables_places.Given as goal

abbrev pub invariant-loop-tree : goal.invariant-loop-tree
invariant-loop-tree l = list_items l.places ++ variables_places (map variable_view (drop l.tree-index l.trees)) ≡ list_items l.fn.places ++ variables_places (map variable_view l.trees)

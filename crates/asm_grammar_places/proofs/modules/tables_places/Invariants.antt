use Rattle.std.proofs.Common.{◌≡◌, ◌++◌, drop, map}
use Rattle.sem_words.specs.Lists.{list_items}
use Rattle.asm_lang.specs.Modules.{tables_places}
use Rattle.asm_grammar_nodes.specs.Views.{table_view}
use Rattle.asm_grammar_places.proofs.modules.tables_places.Given as goal

abbrev pub invariant-loop-tree : goal.invariant-loop-tree
invariant-loop-tree l = list_items l.places ++ tables_places (map table_view (drop l.tree-index l.trees)) ≡ list_items l.fn.places ++ tables_places (map table_view l.trees)

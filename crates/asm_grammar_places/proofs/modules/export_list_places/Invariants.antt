use Rattle.std.proofs.Common.{◌≡◌, ◌++◌, drop, map}
use Rattle.sem_words.specs.Lists.{list_items}
use Rattle.asm_lang.specs.Trees.{ExportTree}
use Rattle.asm_grammar_nodes.specs.Views.{export_view}
use Rattle.asm_grammar_places.proofs.modules.export_list_places.Given as goal

abbrev pub invariant-loop-tree : goal.invariant-loop-tree
invariant-loop-tree l = list_items l.places ++ map (λ (t : ExportTree). t.at) (map export_view (drop l.tree-index l.trees)) ≡ list_items l.fn.places ++ map (λ (t : ExportTree). t.at) (map export_view l.trees)

use Rattle.std.proofs.Common.{◌≡◌, ◌++◌, drop, map}
use Rattle.sem_words.specs.Lists.{list_items}
use Rattle.asm_lang.specs.Modules.{exprs_places}
use Rattle.asm_grammar_nodes.specs.Views.{exprs_view, addend_view}
use Rattle.asm_grammar_places.specs.Parts.{addends_places}
use Rattle.asm_grammar_places.proofs.places.+exprs.Given as goal

abbrev pub invariant-exprs_places-loop-tree : goal.invariant-exprs_places-loop-tree
invariant-exprs_places-loop-tree l = list_items l.places ++ exprs_places (exprs_view (drop l.tree-index l.trees)) ≡ list_items l.initial.places ++ exprs_places (exprs_view l.trees)

abbrev pub invariant-addends_places-loop-addend : goal.invariant-addends_places-loop-addend
invariant-addends_places-loop-addend l = list_items l.places ++ addends_places (map addend_view (drop l.addend-index l.addends)) ≡ list_items l.initial.places ++ addends_places (map addend_view l.addends)

use Rattle.std.proofs.Common.{◌≡◌, ◌++◌, drop}
use Rattle.sem_words.specs.Lists.{list_items}
use Rattle.asm_lang.specs.Modules.{stmts_places, clauses_places}
use Rattle.asm_grammar_nodes.specs.Views.{stmts_view, clauses_view}
use Rattle.asm_grammar_places.proofs.places.+stmts.Given as goal

abbrev pub invariant-stmts_places-loop-tree : goal.invariant-stmts_places-loop-tree
invariant-stmts_places-loop-tree l = list_items l.places ++ stmts_places (stmts_view (drop l.tree-index l.trees)) ≡ list_items l.initial.places ++ stmts_places (stmts_view l.trees)

abbrev pub invariant-clauses_places-loop-clause : goal.invariant-clauses_places-loop-clause
invariant-clauses_places-loop-clause l = list_items l.places ++ clauses_places (clauses_view (drop l.clause-index l.clauses)) ≡ list_items l.initial.places ++ clauses_places (clauses_view l.clauses)

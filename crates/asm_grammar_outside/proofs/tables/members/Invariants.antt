use Rattle.std.proofs.Common.{◌≡◌, ◌∷◌, ◌++◌, drop}
use Rattle.sem_words.specs.Lists.{list_items}
use Rattle.asm_lang.specs.Grammar.{texts}
use Rattle.asm_grammar_nodes.specs.Views.{lexeme_view, lexemes_view, names_view}
use Rattle.asm_grammar_outside.proofs.tables.members.Given as goal

abbrev pub invariant-loop-name : goal.invariant-loop-name
invariant-loop-name l = names_view (list_items l.members) ++ texts (lexemes_view (drop l.name-index l.others)) ≡ (lexeme_view l.first).text ∷ texts (lexemes_view l.others)

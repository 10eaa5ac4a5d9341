use Rattle.std.proofs.Common.{◌≡◌, ◌++◌, drop}
use Rattle.sem_words.specs.Lists.{list_items}
use Rattle.asm_grammar_nodes.specs.Views.{words_view}
use Rattle.asm_tree.specs.Views.{texts_view}
use Rattle.asm_grammar_erase.specs.Parts.{label_texts}
use Rattle.asm_grammar_erase.proofs.labels.label_texts.Given as goal

abbrev pub invariant-loop-label : goal.invariant-loop-label
invariant-loop-label l = texts_view (list_items l.texts) ++ label_texts (words_view (drop l.label-index l.labels)) ≡ label_texts (words_view l.labels)

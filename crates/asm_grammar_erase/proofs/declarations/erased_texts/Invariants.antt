use Rattle.std.proofs.Common.{◌≡◌, ◌++◌, drop, map}
use Rattle.sem_words.specs.Lists.{list_items, text_bytes}
use Rattle.asm_grammar_erase.proofs.declarations.erased_texts.Given as goal

abbrev pub invariant-loop-text : goal.invariant-loop-text
invariant-loop-text l = map text_bytes (list_items l.copies) ++ map text_bytes (drop l.text-index l.texts) ≡ map text_bytes l.texts

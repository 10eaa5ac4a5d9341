use Rattle.std.proofs.Common.{◌≡◌, map, take}
use Rattle.sem_words.specs.Lists.{list_items, text_bytes}
use Rattle.sem_words.specs.declared.text.Text.{Text}
use Rattle.asm_short_tree.specs.Looking.{declared_by}
use Rattle.asm_short_modules.proofs.declarations.renamed_texts.Given as goal

abbrev pub invariant-loop-text : goal.invariant-loop-text
invariant-loop-text l = map text_bytes (list_items l.list) ≡ map (λ (x : Text). declared_by l.names (text_bytes x)) (take l.text-index l.texts)

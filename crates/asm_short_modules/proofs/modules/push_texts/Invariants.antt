use Rattle.std.proofs.Common.{◌≡◌, ◌++◌, map, take}
use Rattle.sem_words.specs.Lists.{text_bytes}
use Rattle.asm_short_tree.specs.Looking.{names_in}
use Rattle.asm_short_modules.proofs.modules.push_texts.Given as goal

abbrev pub invariant-loop-text : goal.invariant-loop-text
invariant-loop-text l = names_in l.names.items ≡ names_in l.initial.names.items ++ map text_bytes (take l.text-index l.texts)

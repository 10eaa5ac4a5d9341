use Rattle.std.proofs.Common.{◌≡◌, ◌++◌, map, take}
use Rattle.sem_words.specs.Lists.{text_bytes}
use Rattle.asm_tree.specs.declared.tree.Local.{Local}
use Rattle.asm_short_tree.specs.Looking.{names_in}
use Rattle.asm_short_modules.proofs.locals.push_locals.Given as goal

abbrev pub invariant-loop-local : goal.invariant-loop-local
invariant-loop-local l = names_in l.names.items ≡ names_in l.initial.names.items ++ map (λ (x : Local). text_bytes x.name) (take l.local-index l.locals)

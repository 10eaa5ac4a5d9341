use Rattle.std.proofs.Common.{◌≡◌, ◌++◌, map, take}
use Rattle.sem_words.specs.Lists.{text_bytes}
use Rattle.asm_tree.specs.declared.tree.Global_.{Global_}
use Rattle.asm_short_tree.specs.Looking.{names_in}
use Rattle.asm_short_modules.proofs.modules.push_globals.Given as goal

abbrev pub invariant-loop-global : goal.invariant-loop-global
invariant-loop-global l = names_in l.names.items ≡ names_in l.initial.names.items ++ map (λ (x : Global_). text_bytes x.name) (take l.global-index l.globals)

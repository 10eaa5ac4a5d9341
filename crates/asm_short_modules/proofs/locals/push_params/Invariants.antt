use Rattle.std.proofs.Common.{◌≡◌, ◌++◌, map, take}
use Rattle.sem_words.specs.Lists.{text_bytes}
use Rattle.asm_tree.specs.declared.tree.Param.{Param}
use Rattle.asm_short_tree.specs.Looking.{names_in}
use Rattle.asm_short_modules.proofs.locals.push_params.Given as goal

abbrev pub invariant-loop-param : goal.invariant-loop-param
invariant-loop-param l = names_in l.names.items ≡ names_in l.initial.names.items ++ map (λ (x : Param). text_bytes x.name) (take l.param-index l.params)

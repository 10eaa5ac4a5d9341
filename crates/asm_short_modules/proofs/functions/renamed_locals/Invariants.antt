use Rattle.std.proofs.Common.{◌≡◌, map, take}
use Rattle.sem_words.specs.Lists.{list_items}
use Rattle.asm_tree.specs.declared.tree.Local.{Local}
use Rattle.asm_tree.specs.Views.{local_view}
use Rattle.asm_short_tree.specs.Looking.{look_by}
use Rattle.asm_short_modules.specs.NewDeclared.{variable_with}
use Rattle.asm_short_modules.proofs.functions.renamed_locals.Given as goal

abbrev pub invariant-loop-local : goal.invariant-loop-local
invariant-loop-local l = map local_view (list_items l.list) ≡ map (λ (x : Local). variable_with (look_by l.look) (local_view x)) (take l.local-index l.locals)

use Rattle.std.proofs.Common.{◌≡◌, map, take}
use Rattle.sem_words.specs.Lists.{list_items}
use Rattle.asm_tree.specs.declared.tree.Global_.{Global_}
use Rattle.asm_tree.specs.Views.{global_view}
use Rattle.asm_short_tree.specs.Looking.{declared_by}
use Rattle.asm_short_modules.specs.NewDeclared.{global_with}
use Rattle.asm_short_modules.proofs.declarations.renamed_globals.Given as goal

abbrev pub invariant-loop-global : goal.invariant-loop-global
invariant-loop-global l = map global_view (list_items l.list) ≡ map (λ (x : Global_). global_with (declared_by l.names) (global_view x)) (take l.global-index l.globals)

use Rattle.std.proofs.Common.{◌≡◌, map, take}
use Rattle.sem_words.specs.Lists.{list_items}
use Rattle.asm_tree.specs.declared.tree.Param.{Param}
use Rattle.asm_tree.specs.Views.{param_view}
use Rattle.asm_short_tree.specs.Looking.{look_by}
use Rattle.asm_short_modules.specs.NewDeclared.{param_with}
use Rattle.asm_short_modules.proofs.functions.renamed_params.Given as goal

abbrev pub invariant-loop-param : goal.invariant-loop-param
invariant-loop-param l = map param_view (list_items l.list) ≡ map (λ (x : Param). param_with (look_by l.look) (param_view x)) (take l.param-index l.params)

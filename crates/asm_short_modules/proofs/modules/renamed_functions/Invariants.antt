use Rattle.std.proofs.Common.{◌≡◌, map, take}
use Rattle.std.specs.Borrow.{Bor}
use Rattle.sem_words.specs.Lists.{list_items}
use Rattle.asm_lang.specs.Modules.{Module}
use Rattle.asm_tree.specs.declared.tree.Function.{Function}
use Rattle.asm_tree.specs.Views.{function_view}
use Rattle.asm_short_lang.specs.Renaming.{renamed_function}
use Rattle.asm_short_modules.specs.NewDeclared.{IsOf}
use Rattle.asm_short_modules.proofs.modules.renamed_functions.Given as goal

abbrev pub invariant-loop-function : goal.invariant-loop-function
invariant-loop-function l = (m : Module) → IsOf m l.names → map function_view (list_items l.list) ≡ map (λ (x : Bor Function). renamed_function m (function_view x.now)) (take l.function-index l.functions)

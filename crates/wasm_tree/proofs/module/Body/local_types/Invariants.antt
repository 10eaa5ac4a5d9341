use Rattle.std.proofs.Common.{◌≡◌, ◌++◌, take}
use Rattle.sem_words.specs.Lists.{list_items}
use Rattle.wasm_tree.specs.Views.{locals_in}
use Rattle.wasm_tree.proofs.module.Body.local_types.Given as goal

abbrev pub invariant-loop-run : goal.invariant-loop-run
invariant-loop-run l = l.types.items ≡ l.before ++ locals_in (take l.run-index (list_items l.self.locals))

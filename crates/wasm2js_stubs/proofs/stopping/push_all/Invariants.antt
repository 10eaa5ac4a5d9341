use Rattle.std.proofs.Common.{◌≡◌, ◌++◌, drop, map}
use Rattle.sem_words.specs.Lists.{list_items}
use Rattle.asm_tree.specs.Views.{function_view}
use Rattle.wasm2js_stubs.specs.Needs.{functions_from}
use Rattle.wasm2js_stubs.proofs.stopping.push_all.Given as goal

abbrev pub invariant-loop-stub : goal.invariant-loop-stub
invariant-loop-stub l =
    map function_view (list_items l.functions) ++ functions_from l.stub (drop l.stub l.needs) ≡ map function_view (list_items l.fn.functions) ++ functions_from 0 l.needs

use Rattle.std.proofs.Common.{◌≡◌, ◌++◌, map, drop}
use Rattle.wasm_tree.specs.Views.{body_of}
use Rattle.asm_tree.specs.Views.{module_view, function_view}
use Rattle.asm2wasm_translation.specs.Modules.{body_for}
use Rattle.asm2wasm.proofs.bodies.bodies.Given as goal

abbrev pub invariant-loop-function : goal.invariant-loop-function
invariant-loop-function l =
    map body_of l.bodies.items ++ map (body_for (module_view l.numbers) l.heap) (map function_view (drop l.function-index l.functions))
    ≡ map (body_for (module_view l.numbers) l.heap) (map function_view l.functions)

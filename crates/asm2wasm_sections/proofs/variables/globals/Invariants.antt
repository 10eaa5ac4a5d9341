use Rattle.std.proofs.Common.{◌≡◌, ◌++◌, map, drop}
use Rattle.wasm_tree.specs.Views.{global_of}
use Rattle.asm_tree.specs.Views.{module_view, global_view}
use Rattle.asm2wasm_translation.specs.Numbers.{int_variables}
use Rattle.asm2wasm_translation.specs.Modules.{global_for}
use Rattle.asm2wasm_sections.proofs.variables.globals.Given as goal

abbrev pub invariant-loop-global : goal.invariant-loop-global
invariant-loop-global l =
    map global_of l.globals.items ++ map (global_for (module_view l.numbers)) (int_variables (map global_view (drop l.global-index l.declared)))
    ≡ map (global_for (module_view l.numbers)) (int_variables (map global_view l.declared))

use Rattle.std.proofs.Common.{◌≡◌, ◌+◌, ◌++◌, map, drop}
use Rattle.wasm_tree.specs.Views.{global_of}
use Rattle.asm_tree.specs.Views.{global_view}
use Rattle.wasm2js_translation.specs.Modules.{own_variables}
use Rattle.wasm2js_sections.specs.Parts.{given_of}
use Rattle.wasm2js_sections.proofs.globals.add_own.Given as goal

abbrev pub invariant-loop-i : goal.invariant-loop-i
invariant-loop-i l =
    map global_view l.variables.items ++ own_variables (map given_of l.names) (l.first + l.i) (map global_of (drop l.i l.globals))
    ≡ map global_view l.initial.variables.items ++ own_variables (map given_of l.names) l.first (map global_of l.globals)

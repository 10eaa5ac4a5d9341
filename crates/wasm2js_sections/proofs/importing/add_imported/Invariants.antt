use Rattle.std.proofs.Common.{◌≡◌, ◌++◌, map, drop}
use Rattle.asm_tree.specs.Views.{global_view}
use Rattle.wasm2js_translation.specs.Modules.{imported_variables}
use Rattle.wasm2js_sections.specs.Parts.{given_of}
use Rattle.wasm2js_sections.proofs.importing.add_imported.Given as goal

abbrev pub invariant-loop-i : goal.invariant-loop-i
invariant-loop-i l =
    map global_view l.variables.items ++ imported_variables l.i (map given_of (drop l.i l.names))
    ≡ map global_view l.initial.variables.items ++ imported_variables 0 (map given_of l.names)

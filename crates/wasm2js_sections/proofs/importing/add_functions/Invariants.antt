use Rattle.std.proofs.Common.{◌≡◌, ◌≤◌, ◌++◌, map, drop}
use Rattle.wasm_tree.specs.Views.{import_of}
use Rattle.asm_tree.specs.Views.{global_view}
use Rattle.wasm2js_sections.specs.Parts.{import_variables}
use Rattle.wasm2js_sections.proofs.importing.add_functions.Given as goal

abbrev pub invariant-loop-import : goal.invariant-loop-import
invariant-loop-import l =
    (l.number ≤ l.import-index)
    × (map global_view l.variables.items ++ import_variables l.number (map import_of (drop l.import-index l.imports))
    ≡ map global_view l.initial.variables.items ++ import_variables 0 (map import_of l.imports))

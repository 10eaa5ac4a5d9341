use Rattle.std.proofs.Common.{◌≡◌, ◌++◌, map, drop}
use Rattle.wasm_tree.specs.Views.{import_of}
use Rattle.asm_tree.specs.Views.{module_view}
use Rattle.asm_validate_limits.specs.Called.{foreign_view}
use Rattle.asm2wasm_translation.specs.Modules.{imported_function}
use Rattle.asm2wasm_sections.proofs.importing.put_functions.Given as goal

abbrev pub invariant-loop-call : goal.invariant-loop-call
invariant-loop-call l =
    map import_of l.imports.items ++ map (imported_function (module_view l.numbers)) (map (foreign_view (module_view l.numbers)) (drop l.call-index l.calls))
    ≡ map import_of l.initial.imports.items ++ map (imported_function (module_view l.numbers)) (map (foreign_view (module_view l.numbers)) l.calls)

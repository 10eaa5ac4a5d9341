use Rattle.std.proofs.Common.{◌≡◌, ◌++◌, map, drop}
use Rattle.wasm_tree.specs.Views.{import_of}
use Rattle.asm_tree.specs.Views.{texts_view}
use Rattle.asm2wasm_translation.specs.Modules.{imported_global}
use Rattle.asm2wasm_sections.proofs.importing.put_globals.Given as goal

abbrev pub invariant-loop-name : goal.invariant-loop-name
invariant-loop-name l =
    map import_of l.imports.items ++ map imported_global (texts_view (drop l.name-index l.names))
    ≡ map import_of l.initial.imports.items ++ map imported_global (texts_view l.names)

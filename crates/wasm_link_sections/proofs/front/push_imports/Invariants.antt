use Rattle.std.proofs.Common.{◌≡◌, ◌++◌, drop, map}
use Rattle.wasm_tree.specs.Views.{import_of}
use Rattle.wasm_link_sections.specs.Made as made
use Rattle.wasm_link_sections.proofs.front.push_imports.Given as goal

abbrev pub invariant-loop-import : goal.invariant-loop-import
invariant-loop-import l =
    map import_of l.fn.imports.items ++ made.imports_made l.other l.types l.own.imports
    ≡ map import_of l.imports.items ++ made.imports_made l.other l.types (map import_of (drop l.import-index l.import-items))

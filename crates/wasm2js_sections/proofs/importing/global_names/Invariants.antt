use Rattle.std.proofs.Common.{◌≡◌, ◌++◌, map, drop}
use Rattle.wasm_tree.specs.Views.{import_of}
use Rattle.wasm_lang_exec.specs.Fits.{global_imports}
use Rattle.wasm2js_sections.specs.Parts.{given_of, by_name}
use Rattle.wasm2js_sections.proofs.importing.global_names.Given as goal

abbrev pub invariant-loop-import : goal.invariant-loop-import
invariant-loop-import l =
    map given_of l.names.items ++ map by_name (global_imports (map import_of (drop l.import-index l.imports))) ≡ map by_name (global_imports (map import_of l.imports))

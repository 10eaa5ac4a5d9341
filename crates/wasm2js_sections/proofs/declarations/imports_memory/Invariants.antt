use Rattle.std.proofs.Common.{◌≡◌, map, drop}
use Rattle.wasm_tree.specs.Views.{import_of}
use Rattle.wasm_lang_valid.specs.ModuleRules.{imports_memory}
use Rattle.wasm2js_sections.proofs.declarations.imports_memory.Given as goal

abbrev pub invariant-loop-import : goal.invariant-loop-import
invariant-loop-import l = imports_memory (map import_of (drop l.import-index l.imports)) ≡ imports_memory (map import_of l.imports)

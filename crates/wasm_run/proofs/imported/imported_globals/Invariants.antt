use Rattle.std.proofs.Common.{◌≡◌, ◌++◌, drop, map}
use Rattle.wasm_tree.specs.Views.{import_of}
use Rattle.wasm_lang_exec.specs.Fits.{global_imports}
use Rattle.wasm_run.specs.GlobalViews.{imported_of}
use Rattle.wasm_run.proofs.imported.imported_globals.Given as goal

abbrev pub invariant-loop-import : goal.invariant-loop-import
invariant-loop-import l = map imported_of l.globals.items ++ global_imports (map import_of (drop l.import-index l.imports)) ≡ global_imports (map import_of l.imports)

use Rattle.std.proofs.Common.{◌≡◌, ◌++◌, drop, map}
use Rattle.session_lang.specs.Views.{script_of}
use Rattle.wasm_tree.specs.Views.{import_of}
use Rattle.wasm_lang_exec.specs.Session.{imported_globals}
use Rattle.wasm_run.proofs.first.add_imported.Given as goal

abbrev pub invariant-loop-import : goal.invariant-loop-import
invariant-loop-import l =
    l.values.items ++ imported_globals (script_of l.script) (map import_of (drop l.import-index l.imports)) ≡ l.fn.values.items ++ imported_globals (script_of l.script) (map import_of l.imports)

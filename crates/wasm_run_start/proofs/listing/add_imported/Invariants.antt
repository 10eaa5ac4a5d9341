use Rattle.std.proofs.Common.{◌++◌, List, Option, map, take}
use Rattle.wasm_lang.specs.Modules.{WasmModule}
use Rattle.wasm_tree.specs.Views.{import_of}
use Rattle.wasm_lang_exec.specs.Reductions as meaning
use Rattle.wasm_lang_exec.specs.Reductions.{imported_callees}
use Rattle.wasm_run_start.specs.Listing.{HaveTypes, AreReady}
use Rattle.wasm_run_start.proofs.listing.add_imported.Given as goal

abbrev pub invariant-loop-import : goal.invariant-loop-import
invariant-loop-import l =
    (m : WasmModule) (cs : List (Option meaning.Callee)) → HaveTypes m (map import_of l.imports) → AreReady m l.fn.functions.items cs
    → AreReady m l.functions.items (cs ++ imported_callees m (map import_of (take l.import-index l.imports)))

use Rattle.std.proofs.Common.{◌≡◌, drop, map}
use Rattle.wasm_tree.specs.Views.{import_of}
use Rattle.wasm_lang_valid.specs.Profile.{imported_entries}
use Rattle.wasm_profile.proofs.table.imported_table.Given as goal

abbrev pub invariant-loop-import : goal.invariant-loop-import
invariant-loop-import l = imported_entries (map import_of l.imports) ≡ imported_entries (map import_of (drop l.import-index l.imports))

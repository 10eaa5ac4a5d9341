use Rattle.std.proofs.Common.{◌≡◌, drop, map}
use Rattle.wasm_tree.specs.Views.{import_of}
use Rattle.wasm_link_lang.specs.Refusal as plain
use Rattle.wasm_link_rows.proofs.memory.imported_stray.Given as goal

abbrev pub invariant-loop-import : goal.invariant-loop-import
invariant-loop-import l = plain.imported_stray (map import_of l.imports) ≡ plain.imported_stray (map import_of (drop l.import-index l.imports))

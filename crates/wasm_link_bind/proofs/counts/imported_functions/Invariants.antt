use Rattle.std.proofs.Common.{◌≡◌, ◌+◌, ◌≤◌, length, drop, map}
use Rattle.wasm_tree.specs.Views.{import_of}
use Rattle.wasm_lang_valid.specs.ModuleRules as items
use Rattle.wasm_link_bind.proofs.counts.imported_functions.Given as goal

abbrev pub invariant-loop-import : goal.invariant-loop-import
invariant-loop-import l = record {
  count : length (items.imported_functions (map import_of l.imports)) ≡ l.count + length (items.imported_functions (map import_of (drop l.import-index l.imports)));
  few : l.count ≤ l.import-index;
}

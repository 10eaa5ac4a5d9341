use Rattle.std.proofs.Common.{◌≡◌, ◌+◌, ◌≤◌, length, drop, map}
use Rattle.wasm_tree.specs.Views.{import_of}
use Rattle.wasm_lang_valid.specs.ModuleRules.{imported_globals}
use Rattle.wasm_profile.proofs.sizes.imported_global_count.Given as goal

abbrev pub invariant-loop-import : goal.invariant-loop-import
invariant-loop-import l = record {
  count : length (imported_globals (map import_of l.imports)) ≡ l.count + length (imported_globals (map import_of (drop l.import-index l.imports)));
  few : l.count ≤ l.import-index;
}

use Rattle.std.proofs.Common.{◌≡◌, ◌≤◌, map, take}
use Rattle.wasm_lang.specs.Limits.{function_imports}
use Rattle.wasm_tree.specs.Views.{import_of}
use Rattle.wasm_binary_entries.proofs.imports.function_count.Given as goal

abbrev pub invariant-loop-import : goal.invariant-loop-import
invariant-loop-import l = record {
  small : l.n ≤ l.import-index;
  count : l.n ≡ function_imports (map import_of (take l.import-index l.imports));
}

use Rattle.std.proofs.Common.{◌≡◌, ◌≤◌, ◌+◌, ◌++◌, drop, map, length}
use Rattle.wasm_tree.specs.Views.{import_of, type_of}
use Rattle.wasm_lang_valid.specs.ModuleRules.{imported_functions}
use Rattle.bridge_lang.specs.Listing.{import_lines}
use Rattle.wasm_listing.proofs.functions.push_imports.Given as goal

-- with the lines that are still to come these are all lines
abbrev pub invariant-loop-import : goal.invariant-loop-import
invariant-loop-import l = record {
  lines : l.out.items ++ import_lines (map type_of l.types) l.number (map import_of (drop l.import-index l.imports)) ≡ l.initial.out.items ++ import_lines (map type_of l.types) 0 (map import_of l.imports);
  count : l.number + length (imported_functions (map import_of (drop l.import-index l.imports))) ≡ length (imported_functions (map import_of l.imports));
  few : l.number ≤ l.import-index;
}

use Rattle.std.proofs.Common.{◌≡◌, drop, map}
use Rattle.wasm_tree.specs.Views.{import_of}
use Rattle.wasm_lang_valid.specs.ModuleRules.{is_table}
use Rattle.wasm_lang_valid.specs.Runnable.{first_import}
use Rattle.wasm_profile.proofs.imports.table_import.Given as goal

abbrev pub invariant-loop-i : goal.invariant-loop-i
invariant-loop-i l = first_import is_table 0 (map import_of l.imports) ≡ first_import is_table l.i (map import_of (drop l.i l.imports))

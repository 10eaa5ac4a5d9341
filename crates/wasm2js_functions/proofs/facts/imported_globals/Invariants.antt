use Rattle.std.proofs.Common.{◌≡◌, ◌++◌, drop, map}
use Rattle.wasm_tree.specs.Views.{import_of}
use Rattle.wasm_lang_valid.specs.ModuleRules as rules
use Rattle.wasm2js_functions.proofs.facts.imported_globals.Given as goal

abbrev pub invariant-loop-import : goal.invariant-loop-import
invariant-loop-import l = rules.imported_globals (map import_of l.imports) ≡ l.types.items ++ rules.imported_globals (map import_of (drop l.import-index l.imports))

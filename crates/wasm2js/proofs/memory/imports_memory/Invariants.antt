use Rattle.std.proofs.Common.{◌≡◌, drop, map}
use Rattle.wasm_tree.specs.Views.{import_of}
use Rattle.wasm_lang_valid.specs.ModuleRules as rules
use Rattle.wasm2js.proofs.memory.imports_memory.Given as goal

abbrev pub invariant-loop-import : goal.invariant-loop-import
invariant-loop-import l = rules.imports_memory (map import_of l.imports) ≡ rules.imports_memory (map import_of (drop l.import-index l.imports))

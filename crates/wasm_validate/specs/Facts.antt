-- What the facts of the code say of a module.
use Rattle.std.specs.Prelude.{◌≡◌, length}
use Rattle.wasm_lang.specs.Modules.{WasmModule}
use Rattle.wasm_lang_valid.specs.ModuleRules as rules
use Rattle.wasm_validate.specs.declared.facts.Facts.{Facts}

pub record FactsOf (f : Facts) (m : WasmModule) : Type 0 where
  pub functions : f.functions.items ≡ rules.function_types m
  pub globals : f.globals.items ≡ rules.global_types m
  pub imported : f.imported_globals ≡ length (rules.imported_globals m.imports)
  pub imported_table : f.imported_table ≡ rules.imports_table m.imports
  pub imported_memory : f.imported_memory ≡ rules.imports_memory m.imports
  pub table : f.table ≡ rules.has_table m
  pub memory : f.memory ≡ rules.has_memory m

-- What the code of a module's functions may refer to.
use Rattle.std.specs.Prelude.{◌≡◌, length}
use Rattle.wasm_lang.specs.Modules.{WasmModule}
use Rattle.wasm_lang_valid.specs.ModuleRules as rules
use Rattle.wasm_lang_valid.specs.Profile.{memory_bytes}
use Rattle.wasm2js_translation.specs.Tables.{cell_count}
use Rattle.wasm2js_operands.specs.Forms.{form_numbers}
use Rattle.wasm2js_functions.specs.declared.facts.Facts.{Facts}

pub record FactsOf (f : Facts) (m : WasmModule) : Type 0 where
  pub forms : f.forms.items ≡ form_numbers m.types
  pub functions : f.functions.items ≡ rules.function_types m
  pub imported : f.imported ≡ length (rules.imported_functions m.imports)
  pub globals : f.globals.items ≡ rules.global_types m
  pub table : f.table ≡ rules.has_table m
  pub memory : f.memory ≡ rules.has_memory m
  pub bytes : f.sizes.bytes ≡ memory_bytes m
  pub cells : f.sizes.cells ≡ cell_count m

-- The names of a module's declarations, each in order.
use Rattle.std.specs.Prelude.{◌≡◌}
use Rattle.asm_lang.specs.Modules.{Module}
use Rattle.asm_lang_valid.specs.Refusal.{foreign_globals}
use Rattle.asm2wasm_translation.specs.Numbers.{global_names}
use Rattle.asm2wasm_tables.specs.Names.{function_names}
use Rattle.asm2wasm_numbers.specs.declared.names.ModuleNames.{ModuleNames}
use Rattle.asm2wasm_numbers.specs.Declarations.{table_names}

pub record IsNamed (m : Module) (names : ModuleNames) : Type 0 where
  pub functions_are : names.functions ≡ function_names m.functions
  pub globals_are : names.globals ≡ global_names m
  pub given_are : names.given ≡ foreign_globals m
  pub tables_are : names.tables ≡ table_names m.tables

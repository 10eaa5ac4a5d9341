-- What the numbers of a module have to know.
use Rattle.std.specs.Prelude.{◌≡◌}
use Rattle.sem_words.specs.Lists.{list_items}
use Rattle.asm_tree.specs.declared.tree.Module.{Module as Tree}
use Rattle.asm_tree.specs.Views.{module_view}
use Rattle.asm_names.specs.declared.environment.Environment.{Environment}
use Rattle.asm_names.specs.Environments.{IsComplete}
use Rattle.asm2wasm_lang.specs.Tables.{bases_of, entries_of}
use Rattle.asm2wasm_tables.specs.declared.plan.TablePlan.{TablePlan}
use Rattle.asm2wasm_numbers.specs.declared.names.ModuleNames.{ModuleNames}
use Rattle.asm2wasm_numbers.specs.declared.signatures.ModuleTypes.{ModuleTypes}
use Rattle.asm2wasm_numbers.specs.Named.{IsNamed}
use Rattle.asm2wasm_numbers.specs.Typed.{IsTyped}

-- the maps have what the module declares
pub record IsNumbered (home : Tree) (environment : Environment) (names : ModuleNames) (types : ModuleTypes) (plan : TablePlan) : Type 0 where
  pub home_is : environment.home.now ≡ home
  pub complete : IsComplete environment
  pub named : IsNamed (module_view home) names
  pub typed : IsTyped (module_view home) types
  pub bases_are : list_items plan.bases ≡ bases_of (module_view home)
  pub entries_are : list_items plan.entries ≡ entries_of (module_view home)

-- What the names of a module and of a function have to know.
use Rattle.std.specs.Prelude.{◌≡◌, ℕ, List, map}
use Rattle.asm_tree.specs.declared.tree.Module.{Module as Tree}
use Rattle.asm_tree.specs.declared.tree.Function.{Function as FunctionTree}
use Rattle.asm_tree.specs.Views.{module_view, function_view}
use Rattle.asm_lang.specs.Modules.{Variable, Param, Function, Table}
use Rattle.asm_lang_valid.specs.Typing.{Scope as PlainScope}
use Rattle.asm_lang_valid.specs.Typed.{scope_of}
use Rattle.asm_names.specs.declared.environment.Environment.{Environment}
use Rattle.asm_names.specs.Environments.{IsComplete}
use Rattle.asm_names.specs.declared.scope.Scope.{Scope}
use Rattle.asm_names.specs.Scopes.{scope_view, IsCompleteScope}
use Rattle.asm2wasm_translation.specs.Numbers.{local_names, global_names}
use Rattle.asm_run_code.specs.Names.{first_free}

abbrev pub function_names : List Function → List (List ℕ)
function_names fs = map (λ (f : Function). f.name) fs

abbrev pub table_names : List Table → List (List ℕ)
table_names ts = map (λ (t : Table). t.name) ts

abbrev pub variable_names : List Variable → List (List ℕ)
variable_names vs = map (λ (v : Variable). v.name) vs

abbrev pub param_names : List Param → List (List ℕ)
param_names ps = map (λ (p : Param). p.name) ps

-- the maps have what the module declares
pub record AreNames (home : Tree) (environment : Environment) (functions globals tables : List (List ℕ)) : Type 0 where
  pub home_is : environment.home.now ≡ home
  pub complete : IsComplete environment
  pub functions_are : functions ≡ function_names (module_view home).functions
  pub globals_are : globals ≡ global_names (module_view home)
  pub tables_are : tables ≡ table_names (module_view home).tables

-- a module, and the function whose body it is
pub record Within : Type 0 where
  pub home : Tree
  pub function : FunctionTree

abbrev pub scope_said : Within → PlainScope
scope_said w = scope_of (module_view w.home) (function_view w.function)

-- names mean what they mean in the function, and its variables have their slots, before the first that is free
pub record IsWithin (home : Tree) (function : FunctionTree) (scope : Scope) (slots : List (List ℕ)) (free : ℕ) : Type 0 where
  pub scope_is : scope_view scope ≡ scope_of (module_view home) (function_view function)
  pub complete : IsCompleteScope scope
  pub slots_are : slots ≡ local_names (function_view function)
  pub free_is : free ≡ first_free (function_view function)

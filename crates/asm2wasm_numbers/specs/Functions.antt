-- What the numbers of a function have to know.
use Rattle.std.specs.Prelude.{◌≡◌, ℕ, List}
use Rattle.asm_tree.specs.declared.tree.Module.{Module as Tree}
use Rattle.asm_tree.specs.declared.tree.Function.{Function}
use Rattle.asm_tree.specs.Views.{module_view, function_view}
use Rattle.asm_lang_valid.specs.Typing.{Scope as PlainScope}
use Rattle.asm_lang_valid.specs.Typed.{scope_of}
use Rattle.asm_names.specs.declared.scope.Scope.{Scope}
use Rattle.asm_names.specs.Scopes.{scope_view, IsCompleteScope}
use Rattle.asm2wasm_translation.specs.Numbers.{local_names}

-- a module, and the function whose body it is
pub record Within : Type 0 where
  pub home : Tree
  pub function : Function

abbrev pub scope_said : Within → PlainScope
scope_said w = scope_of (module_view w.home) (function_view w.function)

-- names mean what they mean in the function, and its variables have their places
pub record IsWithin (home : Tree) (function : Function) (scope : Scope) (slots : List (List ℕ)) : Type 0 where
  pub scope_is : scope_view scope ≡ scope_of (module_view home) (function_view function)
  pub complete : IsCompleteScope scope
  pub slots_are : slots ≡ local_names (function_view function)

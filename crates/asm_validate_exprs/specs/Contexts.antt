-- What a context knows.
use Rattle.std.specs.Prelude.{◌≡◌}
use Rattle.asm_tree.specs.Views.{module_view, function_view}
use Rattle.asm_lang_valid.specs.Typed.{scope_of}
use Rattle.asm_names.specs.Environments.{IsComplete}
use Rattle.asm_names.specs.Scopes.{scope_view, IsCompleteScope}
use Rattle.asm_validate_exprs.specs.declared.context.Context.{Context}

-- each name has its meaning, in the function and in the module
pub record IsContext (c : Context) : Type 0 where
  pub in_module : IsComplete c.environment.now
  pub in_function : IsCompleteScope c.scope
  pub fits : scope_view c.scope ≡ scope_of (module_view c.environment.now.home.now) (function_view c.function.now)

-- What the environments of a module and of a function have to know.
use Rattle.std.specs.Prelude.{◌≡◌, ℕ, List}
use Rattle.asm_tree.specs.Views.{module_view}
use Rattle.asm_lang_valid.specs.Scope.{module_meaning}
use Rattle.asm_names.specs.declared.environment.Environment.{Environment}
use Rattle.asm_names.specs.Meanings.{seen}
use Rattle.asm_names.specs.Members.{EachIsNumbered}

-- each name has its meaning, and each member its number
pub record IsComplete (e : Environment) : Type 0 where
  pub known : (n : List ℕ) → seen e.names n ≡ module_meaning (module_view e.home.now) n
  pub numbered : EachIsNumbered (module_view e.home.now) e.names

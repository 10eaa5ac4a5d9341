-- What the names of a function have to know.
use Rattle.std.specs.Prelude.{◌≡◌, ℕ, List, Option, Some, None, Bool, true, false}
use Rattle.std.specs.Borrow.{Bor}
use Rattle.std.specs.Str.{bytes_eq}
use Rattle.indexmap.specs.IndexMap.{IndexMap, get_by}
use Rattle.asm_tree.specs.Views.{module_view, function_view}
use Rattle.asm_lang_valid.specs.Scope as meanings
use Rattle.asm_lang_valid.specs.Scope.{among_params, among_locals}
use Rattle.asm_lang_valid.specs.Typing.{Scope as PlainScope}
use Rattle.asm_names.specs.declared.scope.Scope.{Scope}
use Rattle.asm_names.specs.declared.meaning.Meaning.{Meaning}
use Rattle.asm_names.specs.declared.meaning.Meaning.TheVariants.{Int, Outside}
use Rattle.asm_names.specs.Meanings.{meaning_view}
use Rattle.asm_names.specs.Environments.{IsComplete}

abbrev pub scope_view : Scope → PlainScope
scope_view s = record { home = module_view s.environment.now.home.now; within = function_view s.function.now }

-- a variable that is an int or not
abbrev pub variable_of : Bool → Meaning
variable_of true = Int
variable_of false = Outside

-- a name of the function, or else what it means in the module
abbrev pub local_or : Option Bool → meanings.Meaning → meanings.Meaning
local_or None otherwise = otherwise
local_or (Some b) otherwise = meaning_view (Some (variable_of b))

abbrev pub local_seen : {S : Type 0} → IndexMap (Bor (List ℕ)) Bool S → List ℕ → meanings.Meaning → meanings.Meaning
local_seen m n otherwise = local_or (get_by (λ k. bytes_eq n k.now) m) otherwise

-- each name has its meaning
pub record IsCompleteScope (s : Scope) : Type 0 where
  pub environment : IsComplete s.environment.now
  pub locals : (n : List ℕ) (o : meanings.Meaning) → local_seen s.locals n o ≡ among_params (function_view s.function.now).params n (among_locals (function_view s.function.now).locals n o)

-- The members of the foreign object that a module imports, and their numbers.
use Rattle.std.specs.Prelude.{◌≡◌, ℕ, zero, suc, List, [], ◌∷◌, Option, Some, None, if◌then◌else◌}
use Rattle.std.specs.Option.{unwrap_or}
use Rattle.std.specs.Str.{bytes_eq}
use Rattle.indexmap.specs.IndexMap.{IndexMap, get_by}
use Rattle.asm_lang.specs.Trees.{Init, member}
use Rattle.asm_lang.specs.Modules.{Variable, Module}
use Rattle.asm_lang_valid.specs.Scope.{is_name}
use Rattle.sem_words.specs.Lists.{text_bytes}
use Rattle.asm_names.specs.declared.meaning.Meaning.{Meaning}
use Rattle.asm_names.specs.declared.meaning.Meaning.TheVariants.{Int, Outside, Foreign, Builtin, View, Function, Table, Parameter}

-- the name of the member that a declaration imports, of the foreign object or of the standard library
abbrev pub member_name : Init → Option (List ℕ)
member_name (member object field) = Some field
member_name _ = None

-- the number of the first declaration that imports a member of this name, or how many there are
abbrev pub first_import : List Variable → List ℕ → ℕ
first_import [] n = 0
first_import (v ∷ vs) n = if is_name n (member_name v.init) then 0 else suc (first_import vs n)

-- the name of the member that the declaration of this number imports
abbrev pub import_at : List Variable → ℕ → List ℕ
import_at [] i = []
import_at (v ∷ vs) zero = unwrap_or (member_name v.init) []
import_at (v ∷ vs) (suc i) = import_at vs i

-- the number of a declaration that is the first to import what it does
abbrev pub IsFirst : Module → ℕ → Type 0
IsFirst m i = first_import m.globals (import_at m.globals i) ≡ i

-- a member of this name, by the number of the first declaration that imports it
pub record IsMember (m : Module) (name : List ℕ) (number : ℕ) : Type 0 where
  pub first : first_import m.globals name ≡ number
  pub named : import_at m.globals number ≡ name

-- what a declaration imports, if it does, has the number of the first that imports it
abbrev pub IsImported : Module → Init → Type 0
IsImported m i = (n : List ℕ) → member_name i ≡ Some n → import_at m.globals (first_import m.globals n) ≡ n

abbrev pub IsNumbered : Module → Option Meaning → Type 0
IsNumbered m None = Unit {0}
IsNumbered m (Some Int) = Unit {0}
IsNumbered m (Some Outside) = Unit {0}
IsNumbered m (Some (Foreign f)) = IsMember m (text_bytes f.name.now) f.declaration
IsNumbered m (Some (Builtin b)) = Unit {0}
IsNumbered m (Some (View e)) = Unit {0}
IsNumbered m (Some (Function f)) = Unit {0}
IsNumbered m (Some (Table t)) = Unit {0}
IsNumbered m (Some Parameter) = Unit {0}

-- so is what a map has under each name
abbrev pub EachIsNumbered : {S : Type 0} → Module → IndexMap (List ℕ) Meaning S → Type 0
EachIsNumbered m names = (n : List ℕ) → IsNumbered m (get_by (bytes_eq n) names)

-- the number that a map has for a member
abbrev pub number_in : {S : Type 0} → IndexMap (List ℕ) ℕ S → List ℕ → ℕ → ℕ
number_in numbers n otherwise = unwrap_or (get_by (bytes_eq n) numbers) otherwise

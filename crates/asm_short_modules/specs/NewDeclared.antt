-- A table of the new names of a module's declarations, and what declarations become by it.
use Rattle.std.specs.Prelude.{◌≡◌, ℕ, List, [], map, Option, Some, None}
use Rattle.std.specs.Borrow.{Bor}
use Rattle.asm_lang.specs.Modules.{Module, Variable, Param, Table, Export, Exports, one, many}
use Rattle.asm_short_lang.specs.Renaming.{in_place, declared_names, new_declared, init_with}
use Rattle.asm_short_tree.specs.declared.names.Names.{Names}
use Rattle.asm_short_tree.specs.Looking.{found}

pub record IsOf (m : Module) (names : Names) : Type 0 where
  pub known : (n : List ℕ) → found names n ≡ in_place (declared_names m) (new_declared m) n

-- a table without names
abbrev pub GivesNothing : Names → Type 0
GivesNothing names = (n : List ℕ) → found names n ≡ None

-- the name that the code lends, or nothing
abbrev pub lent : Option (Bor (List ℕ)) → Option (List ℕ)
lent None = None
lent (Some name) = Some name.now

abbrev pub lent_or_nothing : Option (Bor (List ℕ)) → List ℕ
lent_or_nothing None = []
lent_or_nothing (Some name) = name.now

-- ---- declarations by what names become

abbrev pub param_with : (look : List ℕ → List ℕ) → Param → Param
param_with look p = record { name = look p.name; double = p.double }

abbrev pub variable_with : (look : List ℕ → List ℕ) → Variable → Variable
variable_with look v = record { name = look v.name; init = v.init }

abbrev pub global_with : (look : List ℕ → List ℕ) → Variable → Variable
global_with look v = record { name = look v.name; init = init_with look v.init }

abbrev pub table_with : (look : List ℕ → List ℕ) → Table → Table
table_with look t = record { name = look t.name; members = map look t.members }

abbrev pub export_with : (look : List ℕ → List ℕ) → Export → Export
export_with look e = record { key = e.key; function = look e.function }

abbrev pub exports_with : (look : List ℕ → List ℕ) → Exports → Exports
exports_with look (one f) = one (look f)
exports_with look (many es) = many (map (export_with look) es)

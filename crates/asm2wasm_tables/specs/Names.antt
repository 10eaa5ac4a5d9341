-- The numbers of functions by their names.
use Rattle.std.specs.Prelude.{ℕ, List, [], ◌∷◌, ◌++◌, map}
use Rattle.asm_lang.specs.Modules.{Function, Table}
use Rattle.name_slots.specs.Names.{slot_or_length}

abbrev pub function_names : List Function → List (List ℕ)
function_names fs = map (λ (f : Function). f.name) fs

-- the numbers of functions by their names
abbrev pub numbers_in : List (List ℕ) → List (List ℕ) → List ℕ
numbers_in ns ms = map (slot_or_length ns) ms

-- those of the members of all tables
abbrev pub entries_in : List (List ℕ) → List Table → List ℕ
entries_in ns [] = []
entries_in ns (t ∷ ts) = numbers_in ns t.members ++ entries_in ns ts

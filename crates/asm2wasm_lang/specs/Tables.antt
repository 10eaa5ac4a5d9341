-- The tables of a module laid end to end, in text order, as the one table that WebAssembly has.
use Rattle.std.specs.Prelude.{ℕ, ◌+◌, List, [], ◌∷◌, ◌++◌, length, map}
use Rattle.asm_lang.specs.Modules.{Table, Module}
use Rattle.asm_lang_valid.specs.Refusal.{function_number}

-- the numbers of a table's functions
abbrev pub members_of : Module → Table → List ℕ
members_of m t = map (function_number m.functions) t.members

abbrev pub entries_from : Module → List Table → List ℕ
entries_from m [] = []
entries_from m (t ∷ ts) = members_of m t ++ entries_from m ts

-- the numbers of the functions of all tables
abbrev pub entries_of : Module → List ℕ
entries_of m = entries_from m m.tables

-- where each table begins
abbrev pub bases_from : ℕ → List Table → List ℕ
bases_from at [] = []
bases_from at (t ∷ ts) = at ∷ bases_from (at + length t.members) ts

abbrev pub bases_of : Module → List ℕ
bases_of m = bases_from 0 m.tables

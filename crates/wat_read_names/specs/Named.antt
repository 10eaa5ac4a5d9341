-- Ids by their numbers.
use Rattle.std.specs.Prelude.{ℕ, List, ◌++◌, map, replicate, Option, None, option_map}
use Rattle.std.specs.Borrow.{Bor}
use Rattle.std.specs.Str.{bytes_eq}
use Rattle.indexmap.specs.IndexMap.{IndexMap, get_by}
use Rattle.wat_lang.specs.Names.{Names}

abbrev pub name_of : Option (Bor (List ℕ)) → Option (List ℕ)
name_of n = option_map (λ (b : Bor (List ℕ)). b.now) n

abbrev pub names_in : List (Option (Bor (List ℕ))) → Names
names_in ns = map name_of ns

-- the names behind so many numbers that have none
abbrev pub names_behind : (unnamed : ℕ) → List (Option (Bor (List ℕ))) → Names
names_behind unnamed ns = replicate unnamed None ++ names_in ns

-- what a map has under an id
abbrev pub found : {X S : Type 0} → IndexMap (List ℕ) X S → List ℕ → Option X
found places n = get_by (bytes_eq n) places

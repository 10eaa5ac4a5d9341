-- Names by their places.
use Rattle.std.specs.Prelude.{ℕ, List, length, map, Option, Some, None}
use Rattle.std.specs.Borrow.{Bor}
use Rattle.std.specs.Str.{bytes_eq}
use Rattle.indexmap.specs.IndexMap.{IndexMap, get_by}
use Rattle.asm2wasm_translation.specs.Numbers.{slot_of}

-- the names that the code lends
abbrev pub names_in : List (Bor (List ℕ)) → List (List ℕ)
names_in bs = map (λ (b : Bor (List ℕ)). b.now) bs

-- what a map has under a name
abbrev pub found : {S : Type 0} → IndexMap (List ℕ) ℕ S → List ℕ → Option ℕ
found slots n = get_by (bytes_eq n) slots

abbrev pub or_else : Option ℕ → ℕ → ℕ
or_else None otherwise = otherwise
or_else (Some i) otherwise = i

-- the place of a name, or past the last
abbrev pub slot_or_length : List (List ℕ) → List ℕ → ℕ
slot_or_length ns n = or_else (slot_of ns n) (length ns)

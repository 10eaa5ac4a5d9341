-- Exported functions in a map.
use Rattle.std.specs.Prelude.{ℕ, List, Option, Some, None}
use Rattle.std.specs.Str.{bytes_eq}
use Rattle.indexmap.specs.IndexMap.{IndexMap, get_by}

abbrev pub joined : Option (Option ℕ) → Option ℕ
joined None = None
joined (Some f) = f

-- what a map has under a name
abbrev pub found : {S : Type 0} → IndexMap (List ℕ) (Option ℕ) S → List ℕ → Option ℕ
found functions n = joined (get_by (bytes_eq n) functions)

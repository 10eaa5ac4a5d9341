-- Ids that were seen.
use Rattle.std.specs.Prelude.{◌≡◌, ℕ, Bool, List}
use Rattle.std.specs.Str.{bytes_eq}
use Rattle.wat_lang.specs.Rows.{is_taken}
use Rattle.indexmap.specs.IndexSet.{IndexSet, contains}

abbrev pub has_seen : {S : Type 0} → IndexSet (List ℕ) S → List ℕ → Bool
has_seen seen n = contains bytes_eq seen n

-- a set has these ids
abbrev pub HasSeen : {S : Type 0} → IndexSet (List ℕ) S → List (List ℕ) → Type 0
HasSeen seen before = (n : List ℕ) → has_seen seen n ≡ is_taken before n

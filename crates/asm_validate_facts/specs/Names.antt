-- The names in a set, in the order in which they came.
use Rattle.std.specs.Prelude.{ℕ, List, map}
use Rattle.std.specs.Borrow.{Bor}
use Rattle.indexmap.specs.IndexSet.{IndexSet}

abbrev pub bytes_of : List (Bor (List ℕ)) → List (List ℕ)
bytes_of ns = map (λ (n : Bor (List ℕ)). n.now) ns

abbrev pub held : {S : Type 0} → IndexSet (Bor (List ℕ)) S → List (List ℕ)
held s = bytes_of s.keys

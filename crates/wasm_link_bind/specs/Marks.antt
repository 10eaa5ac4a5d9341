-- Marked functions.
use Rattle.std.specs.Prelude.{ℕ, nat_eq, Bool, true, false, ◌&&◌, ◌||◌, List, [], ◌∷◌, Option, Some, None, slice_get}
use Rattle.wasm_link_lang.specs.Pairs.{bound}

abbrev pub has : List ℕ → ℕ → Bool
has [] b = false
has (e ∷ es) b = nat_eq e b || has es b

abbrev pub is_bound : Option ℕ → Bool
is_bound None = false
is_bound (Some b) = true

abbrev pub or_false : Option Bool → Bool
or_false None = false
or_false (Some b) = b

-- a bound import that is marked
abbrev pub is_member : List (Option ℕ) → List Bool → ℕ → Bool
is_member next marks a = is_bound (bound (slice_get next a)) && or_false (slice_get marks a)

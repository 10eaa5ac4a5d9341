-- Chunks of bytes, and what they say one after the other.
use Rattle.std.specs.Prelude.{◌≡◌, ◌<◌, ℕ, zero, suc, List, [], ◌∷◌, ◌++◌, length, Option, Some, None, Vec}
use Rattle.std.specs.declared.alloc.Global.{Global}
use Rattle.std.specs.Str.{bytes_eq}
use Rattle.indexmap.specs.IndexMap.{IndexMap, get_by}

-- the bytes of the chunk at a place; none past the last
abbrev pub chunk : List (Vec ℕ Global) → ℕ → List ℕ
chunk [] i = []
chunk (c ∷ cs) zero = c.items
chunk (c ∷ cs) (suc i) = chunk cs i

-- those of the chunks at these places, one after the other
abbrev pub joined : List (Vec ℕ Global) → List ℕ → List ℕ
joined chunks [] = []
joined chunks (i ∷ is) = chunk chunks i ++ joined chunks is

-- places below so many
abbrev pub AreBelow : ℕ → List ℕ → Type 0
AreBelow n [] = Unit {0}
AreBelow n (i ∷ is) = (i < n) × AreBelow n is

-- what a map has under these bytes is the place of a chunk that they are
abbrev pub IsHeld : List (Vec ℕ Global) → List ℕ → Option ℕ → Type 0
IsHeld chunks bytes None = Unit {0}
IsHeld chunks bytes (Some i) = (i < length chunks) × (chunk chunks i ≡ bytes)

-- so is all that it has
abbrev pub AreHeld : {S : Type 0} → List (Vec ℕ Global) → IndexMap (List ℕ) ℕ S → Type 0
AreHeld chunks places = (bytes : List ℕ) → IsHeld chunks bytes (get_by (bytes_eq bytes) places)

-- there are more chunks, or as many
pub record Grows (old new : List (Vec ℕ Global)) : Type 0 where
  pub more : List (Vec ℕ Global)
  pub behind : new ≡ old ++ more

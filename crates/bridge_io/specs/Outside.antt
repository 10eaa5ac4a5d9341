-- What files and sinks are to a caller: bytes under names, bytes written so far, and counts.
use Rattle.std.specs.Prelude.{◌≡◌, ◌⊎◌, ◌↔◌, ℕ, ◌+◌, ◌-◌, ◌^◌, ◌≤◌, ◌<◌, min, List, [], ◌∷◌, ◌++◌, length, take, drop, Option, Some, None, option_map, if◌then◌else◌}
use Rattle.std.specs.Str.{bytes_eq}

-- the files that are told: the bytes of each name, and the bytes under it
abbrev pub Told : Type 0
Told = List (List ℕ × List ℕ)

-- the bytes of the file of a name, if there is one
abbrev pub content_of : Told → List ℕ → Option (List ℕ)
content_of [] name = None
content_of (file ∷ files) name = if bytes_eq name file.0 then Some file.1 else content_of files name

-- the last value of a count, which it keeps once it is there
abbrev pub last_count : ℕ
last_count = 2 ^ 64 - 1

-- a count after it is raised by a number
abbrev pub raised : ℕ → ℕ → ℕ
raised by old = min (old + by) last_count

-- a count never falls, and doesn't pass its last value
pub record NeverFalls (old new : ℕ) : Type 0 where
  pub on : old ≤ new
  pub within : new ≤ last_count

-- a count rose, or stands at its last value
abbrev pub Rose : ℕ → ℕ → Type 0
Rose old new = (old < new) ⊎ (new ≡ last_count)

-- a count rose by a number or more, or stands at its last value
abbrev pub RoseBy : ℕ → ℕ → ℕ → Type 0
RoseBy by old new = (old + by ≤ new) ⊎ (new ≡ last_count)

-- A read at a place of a file gave these n bytes of it. It gives none exactly where nothing is left there.
pub record GivesFrom (content : List ℕ) (at n : ℕ) (piece : List ℕ) : Type 0 where
  pub bytes : piece ≡ take n (drop at content)
  pub end : (n ≡ 0) ↔ (length content ≤ at)

-- what was written before, where that is told, with these bytes behind it
abbrev pub appended : Option (List ℕ) → List ℕ → Option (List ℕ)
appended told bytes = option_map (λ before. before ++ bytes) told

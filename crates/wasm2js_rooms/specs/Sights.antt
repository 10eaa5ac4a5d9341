-- What a room shows: its heights, and whether it names a local. Rooms that show the same for each local declare the same.
use Rattle.std.specs.Prelude.{ℕ, ◌<◌, max, Bool, false, ◌||◌, ◌==◌, List, Option, Some, None, slice_index_or}
use Rattle.std.specs.List.{list_any}
use Rattle.wasm2js_translation.specs.Rooms as rooms
use Rattle.wasm2js_rooms.specs.declared.room.Room.{Room}

pub record Sight : Type 0 where
  pub height : ℕ
  pub wide_height : ℕ
  pub named : Bool

abbrev pub joined : Sight → Sight → Sight
joined a b = record { height = max a.height b.height; wide_height = max a.wide_height b.wide_height; named = a.named || b.named }

-- the local that is asked for, if one is
abbrev pub is_this : Option ℕ → ℕ → Bool
is_this None y = false
is_this (Some x) y = x == y

abbrev pub flag_of : Option ℕ → List Bool → Bool
flag_of None flags = false
flag_of (Some x) flags = slice_index_or flags x false

-- it is one of so many
abbrev pub IsWithin : (count : ℕ) → Option ℕ → Type 0
IsWithin count None = Unit {0}
IsWithin count (Some x) = x < count

abbrev pub sight : Option ℕ → rooms.Room → Sight
sight x r = record { height = r.height; wide_height = r.wide_height; named = list_any (is_this x) r.locals }

-- of the code's room
abbrev pub seen : Option ℕ → Room → Sight
seen x r = record { height = r.height; wide_height = r.wide_height; named = flag_of x r.named.items }

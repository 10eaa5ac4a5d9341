-- The places of a body that the walk comes to, and which follow each.
use Rattle.std.specs.Prelude.{◌≡◌, ℕ, suc, ◌+◌, ◌≤◌, ◌<◌, List, [], ◌∷◌, ◌++◌, map, length, vec_len, take, drop, Option, None, slice_get}
use Rattle.wasm_lang.specs.declared.types.ValType.{ValType}
use Rattle.wasm_lang.specs.Instructions as flat
use Rattle.wasm_lang.specs.Instructions.{Instruction}
use Rattle.wasm_lang_valid.specs.Typing.{Context, listed, type_of}
use Rattle.wasm_lang_exec.specs.Code.{Tree, block, loop, if_block, Trees, ε, ◌▹◌}
use Rattle.wasm_run_flat.specs.declared.target.Target.{Target}
use Rattle.wasm_run_flat.specs.Jumps.{past_end, other_arm}
use Rattle.wasm_run_flat.specs.Places.{code_at, Stands}
use Rattle.wasm2js_translation.specs.Bodies.{after_plain, types_after_call}
use Rattle.wasm2js_translation.specs.Rooms.{Room, with_room, local_named, here, room_of, wide_from}
use Rattle.wasm2js_operands.specs.Operands.{over}
use Rattle.wasm2js_rooms.specs.Sights.{Sight, joined, sight, seen, IsWithin}
use Rattle.wasm2js_rooms.specs.declared.walk.Place.{Place}
use Rattle.wasm2js_rooms.specs.declared.walk.Walk.{Walk}

-- a place, with the operands of the innermost block, the top first, and how many lie below those
pub record Spot : Type 0 where
  pub at : ℕ
  pub base : ℕ
  pub types : List ValType

-- what the walk keeps of it, over the operands of all open blocks
abbrev pub spot_at : List ValType → Place → Spot
spot_at all p = record { at = p.at; base = p.base; types = listed p.result ++ over p.base (take p.height all) }

-- where all operands are there
abbrev pub there : Place → List ValType → Spot
there p all = record { at = p.at; base = p.base; types = over p.base all }

-- ---- what follows a place

abbrev pub goes_on : Spot → List ValType → List Spot
goes_on s ts = record { at = s.at + 1; base = s.base; types = ts } ∷ []

-- past a block's end, and inside it; the last is come to first
abbrev pub block_spots : List Instruction → Spot → Option ValType → List Spot
block_spots body s r =
    record { at = past_end body s.at; base = s.base; types = listed r ++ s.types }
    ∷ record { at = s.at + 1; base = s.base + length s.types; types = [] } ∷ []

abbrev pub arm_spots : List Instruction → Spot → Option ValType → List Spot
arm_spots body s r =
    record { at = past_end body s.at; base = s.base; types = listed r ++ s.types }
    ∷ record { at = other_arm body s.at; base = s.base + length s.types; types = [] }
    ∷ record { at = s.at + 1; base = s.base + length s.types; types = [] } ∷ []

abbrev pub after_condition : Spot → Spot
after_condition s = record { at = s.at; base = s.base; types = drop 1 s.types }

abbrev pub next_spots : Context → List Instruction → Spot → Instruction → List Spot
next_spots c body s (flat.plain p) = goes_on s (after_plain c p s.types)
next_spots c body s (flat.br_if k) = goes_on s (drop 1 s.types)
next_spots c body s (flat.block r) = block_spots body s r
next_spots c body s (flat.loop r) = block_spots body s r
next_spots c body s (flat.if_block r) = arm_spots body (after_condition s) r
next_spots c body s (flat.call f) = goes_on s (types_after_call (type_of c f) s.types)
next_spots c body s (flat.call_indirect t) = goes_on s (types_after_call (slice_get c.types t) (drop 1 s.types))
next_spots c body s i = []

abbrev pub locals_in : Instruction → List ℕ
locals_in (flat.plain p) = local_named p
locals_in i = []

-- ---- the rooms of places

abbrev pub room_at : Context → List Instruction → Spot → Room
room_at c body s = room_of c (code_at body s.at) s.base s.types

abbrev pub rooms_at : Context → List Instruction → List Spot → Room
rooms_at c body [] = record { height = 0; wide_height = 0; locals = [] }
rooms_at c body (s ∷ ss) = with_room (room_at c body s) (rooms_at c body ss)

-- ---- that the walk ends: each step leaves fewer trees

abbrev mutual
  pub tree_size : Tree → ℕ
  tree_size (block r body) = suc (suc (size body))
  tree_size (loop r body) = suc (suc (size body))
  tree_size (if_block r first second) = suc (suc (suc (size first + size second)))
  tree_size x = suc 0

  pub size : Trees → ℕ
  size ε = 0
  size (x ▹ xs) = tree_size x + size xs

abbrev pub work : List Instruction → List ℕ → ℕ
work body [] = 0
work body (n ∷ ns) = suc (size (code_at body n)) + work body ns

-- ---- what the walk keeps

abbrev pub IsPlace : List Instruction → ℕ → Type 0
IsPlace body at = (ts : List Target) × Stands body at ts

abbrev pub ArePlaces : List Instruction → List ℕ → Type 0
ArePlaces body [] = Unit {0}
ArePlaces body (n ∷ ns) = IsPlace body n × ArePlaces body ns

abbrev pub ats : List Place → List ℕ
ats ps = map (λ (p : Place). p.at) ps

-- the operands of each lie on those of the ones before it
abbrev pub AreStacked : (floor top : ℕ) → List Place → Type 0
AreStacked floor top [] = floor ≤ top
AreStacked floor top (p ∷ ps) = (floor ≤ p.base) × (p.base ≤ p.height) × AreStacked p.height top ps

-- the highest wide operand of a place below the topmost one lies no higher than this
abbrev pub IsKnown : (wide_height : ℕ) → Spot → Type 0
IsKnown w s = wide_from s.base (drop 1 s.types) ≤ w

abbrev pub AreKnown : (wide_height : ℕ) → List Spot → Type 0
AreKnown w [] = Unit {0}
AreKnown w (s ∷ ss) = IsKnown w s × AreKnown w ss

-- a walk with these places more, over the operands above a floor
pub record IsAdded (floor : ℕ) (types : List ValType) (before after : List Place) (next : List Spot) : Type 0 where
  pub added : List Place
  pub places : after ≡ before ++ added
  pub spots : map (spot_at types) added ≡ next
  pub stacked : AreStacked floor (length types) added

-- the walk begins at the first place
pub record IsStart (c : Context) (w : Walk) : Type 0 where
  pub types : w.types.items ≡ []
  pub places : w.places.items ≡ record { at = 0; base = 0; height = 0; result = None } ∷ []
  pub count : vec_len w.room.named ≡ length c.locals
  pub sights : (x : Option ℕ) → seen x w.room ≡ sight x (here 0 (listed c.returns) [])

-- the walk takes one step from a place
pub record IsStep (c : Context) (body : List Instruction) (p : Place) (before after : Walk) : Type 0 where
  pub added : List Place
  pub places : after.places.items ≡ before.places.items ++ added
  pub stacked : AreStacked p.base (length after.types.items) added
  pub below : take p.base after.types.items ≡ take p.base before.types.items
  pub stand : ArePlaces body (ats added)
  pub fewer : work body (ats added) < suc (size (code_at body p.at))
  pub wider : before.room.wide_height ≤ after.room.wide_height
  pub known : AreKnown after.room.wide_height (map (spot_at after.types.items) added)
  pub count : vec_len after.room.named ≡ vec_len before.room.named
  pub sights : (x : Option ℕ) → IsWithin (vec_len before.room.named) x
      → joined (seen x after.room) (sight x (rooms_at c body (map (spot_at after.types.items) added)))
      ≡ joined (seen x before.room) (sight x (room_at c body (spot_at before.types.items p)))

-- what the walk has seen, and the rooms of the places that are still to be come to, show this for each local
pub record IsUnderWay (c : Context) (body : List Instruction) (total : Option ℕ → Sight) (w : Walk) : Type 0 where
  pub stand : ArePlaces body (ats w.places.items)
  pub stacked : AreStacked 0 (length w.types.items) w.places.items
  pub known : AreKnown w.room.wide_height (map (spot_at w.types.items) w.places.items)
  pub count : vec_len w.room.named ≡ length c.locals
  pub sights : (x : Option ℕ) → IsWithin (vec_len w.room.named) x
      → joined (seen x w.room) (sight x (rooms_at c body (map (spot_at w.types.items) w.places.items))) ≡ total x

-- of the whole body
abbrev pub whole : Context → List Instruction → Option ℕ → Sight
whole c body x = joined (sight x (here 0 (listed c.returns) [])) (sight x (room_of c (code_at body 0) 0 []))

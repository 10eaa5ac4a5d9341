-- Where slices stand in memory.
use Rattle.std.specs.Prelude.{◌≡◌, ℕ, ◌+◌, ◌-◌, ◌≤◌, List, length, take, drop}
use Rattle.std.specs.Borrow.{Bor}

-- The first slice is a part of the second: it stands in the same block of memory, between the ends of the second, and has
-- the bytes that the second has from there on. The place of a slice is a block of memory and an offset in it.
pub record Inside (part whole : Bor (List ℕ)) : Type 0 where
  pub block : part.ref_ptr.0 ≡ whole.ref_ptr.0
  pub begins : whole.ref_ptr.1 ≤ part.ref_ptr.1
  pub ends : part.ref_ptr.1 + length part.now ≤ whole.ref_ptr.1 + length whole.now
  pub holds : part.now ≡ take (length part.now) (drop (part.ref_ptr.1 - whole.ref_ptr.1) whole.now)

-- The first slice stands at this place of the input, as a part of the second, which stands at that place: so much further in
-- memory as its place is further in the input.
pub record Stands (place : ℕ) (part : Bor (List ℕ)) (start : ℕ) (whole : Bor (List ℕ)) : Type 0 where
  pub inside : Inside part whole
  pub as_far : part.ref_ptr.1 + start ≡ whole.ref_ptr.1 + place

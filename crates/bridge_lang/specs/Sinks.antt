-- What a sink gains.
use Rattle.std.specs.Prelude.{◌≡◌, ◌≤◌, ℕ, List, Option, length, take}
use Rattle.bridge_io.specs.Outside.{Rose, appended}

-- a sink's bytes so far, where they are told, and its count of failed writes
pub record Seen : Type 0 where
  pub bytes : Option (List ℕ)
  pub faults : ℕ

-- the sink gained these bytes
abbrev pub Gains : List ℕ → Seen → Seen → Type 0
Gains bytes old new = new.bytes ≡ appended old.bytes bytes

-- a write failed, and the sink gained a front of these bytes
pub record GainsFront (bytes : List ℕ) (old new : Seen) : Type 0 where
  pub count : ℕ
  pub within : count ≤ length bytes
  pub gained : new.bytes ≡ appended old.bytes (take count bytes)
  pub failed : Rose old.faults new.faults

-- the sink has the bytes that it had
abbrev pub Stays : Seen → Seen → Type 0
Stays old new = new.bytes ≡ old.bytes

abbrev pub seen : Option (List ℕ) → ℕ → Seen
seen bytes faults = record { bytes = bytes; faults = faults }

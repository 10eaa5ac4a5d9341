-- Files and sinks in memory: what they hold, which of their calls fail, and their counts.
use Rattle.std.specs.Prelude.{ℕ, ◌-◌, min, List, ◌++◌, length, take, drop, map, Contains, String, Vec}
use Rattle.std.specs.BTreeMap.{BTreeMap}
use Rattle.std.specs.String.{string_bytes}
use Rattle.std.specs.declared.alloc.Global.{Global}
use Rattle.bridge_io.specs.Outside.{Told, raised}

-- the files that a map holds
abbrev pub files_of : BTreeMap (String Global) (Vec ℕ Global) → Told
files_of stored = map (λ entry. (string_bytes entry.0, entry.1.items)) stored.entries

-- how many bytes a read gives: as many as are left at that place, and as fit
abbrev pub read_len : List ℕ → ℕ → ℕ → ℕ
read_len content at room = min room (length content - at)

-- what a read leaves in a buffer
abbrev pub read_into : List ℕ → ℕ → List ℕ → List ℕ
read_into content at buf = let n = read_len content at (length buf) in take n (drop at content) ++ drop n buf

-- files that fail at listed reads
pub record FilesState : Type 0 where
  pub files : Told
  pub listed : List ℕ
  pub calls : ℕ
  pub faults : ℕ
  pub absences : ℕ
  pub given : ℕ

-- files that never fail
pub record SteadyFilesState : Type 0 where
  pub files : Told
  pub calls : ℕ
  pub absences : ℕ
  pub given : ℕ

-- a sink that takes a piece at a time, and fails at listed writes and where there is no room
pub record SinkState : Type 0 where
  pub bytes : List ℕ
  pub room : ℕ
  pub piece : ℕ
  pub listed : List ℕ
  pub calls : ℕ
  pub faults : ℕ

-- a sink that takes a piece at a time, and never fails
pub record SteadySinkState : Type 0 where
  pub bytes : List ℕ
  pub room : ℕ
  pub piece : ℕ
  pub calls : ℕ

-- the next call is one of those that fail
abbrev pub FailsNext : List ℕ → ℕ → Type 0
FailsNext listed calls = Contains listed (raised 1 calls)

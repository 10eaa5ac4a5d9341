-- When what a run of asm.js comes to from a place shows what is left of a session of WebAssembly, at a pace of at most so many units a reduction.
use Rattle.std.specs.Prelude.{◌≡◌, ℕ, ◌+◌, ◌*◌, ◌<◌, List}
use Rattle.session_lang.specs.Observation.{EventPlain, ObservationPlain, done, running, ended, IsPrefix}
use Rattle.session_lang.specs.Simulation.{Comparison, IsSameAs, SourceIsBelow, TargetIsBelow}
use Rattle.asm_lang_exec.specs.Runs.{Place, Run, goes, stops, spent, wrong}

-- what is seen of the source from here on, by the reductions that are left
abbrev pub Rest : Type 0
Rest = ℕ → ObservationPlain

-- an earlier sight of the source that is low enough for what the target shows where it is out of units. A reduction is worth c units;
-- z more units may be taken that no reduction pays for, n is how many there were, and `here` is what was shown by then
pub data Lower (by : Comparison) (c z n : ℕ) (r : Rest) (here later : List EventPlain) : Type 0 where
  reached : (low : ℕ) → SourceIsBelow by (r low) (running later) → n < c * (low + 1) + z → Lower by c z n r here later
  -- only units that no reduction pays for were taken, so that such a sight may lie before this place
  before : IsPrefix (by.target_events here) (by.target_events later) → n < z → Lower by c z n r here later

-- the target is out of units, and shows no more than the source at some number of reductions
pub record Waits (by : Comparison) (c z : ℕ) (p : Place) (r : Rest) (later : List EventPlain) : Type 0 where
  pub high : ℕ
  pub no_more : TargetIsBelow by (running later) (r high)
  pub lower : Lower by c z p.units r p.events later

-- the target has ended, and so has the source, with the same
pub record Ends (by : Comparison) (r : Rest) (seen : ObservationPlain) : Type 0 where
  pub cost : ℕ
  pub same : IsSameAs by (r cost) seen

-- the last is what the target comes to from the place; where it goes wrong nothing is asked
abbrev pub Follows : Comparison → ℕ → ℕ → Place → Rest → Run (Unit {0}) → Type 0
Follows by c z p r (goes t q) = Ends by r (ended q.events done q.heap)
Follows by c z p r (stops e q) = Ends by r (ended q.events e q.heap)
Follows by c z p r (spent q) = Waits by c z p r q.events
Follows by c z p r wrong = Unit {0}

-- the source still runs, and has shown the same as the target
pub record Stands (by : Comparison) (p : Place) (r : Rest) : Type 0 where
  pub events : List EventPlain
  pub is_running : r 0 ≡ running events
  pub match : by.source_events events ≡ by.target_events p.events

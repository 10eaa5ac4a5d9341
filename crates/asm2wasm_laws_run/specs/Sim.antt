-- When the reductions of translated code show what a run of a part of asm.js shows, and how many there are. A unit of asm.js is worth
-- no fewer than one reduction, and no more than `worth`.
use Rattle.std.specs.Prelude.{◌≡◌, ℕ, ◌+◌, ◌*◌, ◌≤◌, List, map}
use Rattle.session_lang.specs.Observation.{EventPlain, EndPlain}
use Rattle.session_lang.specs.CallingForms.{event_to_wasm}
use Rattle.wasm_lang_exec.specs.Store.{Store}
use Rattle.wasm_laws_drive.specs.Drive.{Outcome, Ended, Spent}
use Rattle.asm_lang_exec.specs.Runs.{Place, Run, goes, stops, spent, wrong}

-- what comes of code, by the reductions that it may take
abbrev pub Steps : Type 0
Steps = ℕ → Outcome

-- with n units, code comes to other code with some units left: in no fewer reductions than units are used, and no more than those that
-- the units are worth and some more
pub record Comes (worth more n : ℕ) (r : Steps) (left : ℕ) (later : Steps) : Type 0 where
  pub cost : ℕ
  pub used : ℕ
  pub units : used + left ≡ n
  pub no_fewer : used ≤ cost
  pub no_more : cost ≤ more + worth * used
  pub by : (k : ℕ) → r (cost + k) ≡ later k

-- with n units, code uses up as many reductions, with these events
pub record Halts (worth more n : ℕ) (r : Steps) (events : List EventPlain) : Type 0 where
  pub cost : ℕ
  pub store : Store
  pub no_fewer : n ≤ cost
  pub no_more : cost ≤ more + worth * n
  pub by : r cost ≡ Spent store
  pub seen : store.events ≡ events

-- what an end at a place of asm.js is in WebAssembly
abbrev pub Ends : Type 1
Ends = EndPlain → Place → EndPlain → Store → Type 0

-- what a value at a place of asm.js is in WebAssembly
abbrev pub Shows : Type 0 → Type 1
Shows A = A → Place → Steps → Type 0

-- code does what a run says; where the run is wrong nothing is asked
abbrev pub Sim : (worth : ℕ) (ends : Ends) {A : Type 0} (shows : Shows A) (more n : ℕ) → Steps → Run A → Type 0
Sim worth ends shows more n r (goes a p) = (later : Steps) × shows a p later × Comes worth more n r p.units later
Sim worth ends shows more n r (stops e p) = (end : EndPlain) × (s : Store) × ends e p end s × (left : ℕ) × Comes worth more n r left (λ k. Ended end s)
Sim worth ends shows more n r (spent p) = Halts worth more n r (map event_to_wasm p.events)
Sim worth ends shows more n r wrong = Unit {0}

-- surroundings keep an end, and reductions that are used up
pub record Keeps (around : Outcome → Outcome) : Type 0 where
  pub ended : (e : EndPlain) (s : Store) → around (Ended e s) ≡ Ended e s
  pub spent : (s : Store) → around (Spent s) ≡ Spent s

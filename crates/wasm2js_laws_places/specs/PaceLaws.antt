-- How a run that follows is put together from its reductions, and what it says of whole sessions.
use Rattle.std.specs.Prelude.{◌≡◌, ℕ, suc, ◌+◌, ◌*◌, ◌<◌, ◌≤◌, Some}
use Rattle.session_lang.specs.Observation.{running, IsPrefix}
use Rattle.session_lang.specs.Simulation.{Session, Comparison, TargetIsBelow}
use Rattle.session_lang.specs.Laws.{KeepsOrder, IsFollowed}
use Rattle.asm_lang_exec.specs.Runs.{Place, Run, spent}
use Rattle.asm_lang_exec.specs.Session.{observed}
use Rattle.wasm2js_laws_places.specs.Following.{Rest, Follows, Stands}

-- one reduction pays for at most c units
abbrev pub StepsArePaid : Type 0
StepsArePaid =
    (by : Comparison) → KeepsOrder by → (c z u : ℕ) (p q : Place) (r s : Rest) (run : Run (Unit {0}))
    → u ≤ c → p.units ≡ q.units + u → IsPrefix p.events q.events → Stands by p r → ((k : ℕ) → r (suc k) ≡ s k)
    → Follows by c z q s run → Follows by c z p r run

-- the target is out of units among those that the next reduction pays for
abbrev pub StandsStill : Type 0
StandsStill =
    (by : Comparison) (c z u : ℕ) (p q : Place) (r : Rest)
    → u ≤ c → p.units < u → q.events ≡ p.events → Stands by p r → Follows by c z p r (spent q)

-- sessions that show the same are followed alike
abbrev pub SameIsFollowed : Type 0
SameIsFollowed = (by : Comparison) (c z : ℕ) (p : Place) (r s : Rest) (run : Run (Unit {0})) → ((k : ℕ) → r k ≡ s k) → Follows by c z p s run → Follows by c z p r run

-- units that only the target takes
abbrev pub FreeUnits : Type 0
FreeUnits =
    (by : Comparison) → KeepsOrder by → (c z u : ℕ) (p q : Place) (r : Rest) (run : Run (Unit {0}))
    → p.units ≡ q.units + u → IsPrefix p.events q.events → Follows by c z q r run → Follows by c (z + u) p r run

-- the target is out of units among those that no reduction pays for
abbrev pub UnpaidStops : Type 0
UnpaidStops =
    (by : Comparison) → KeepsOrder by → (c z high : ℕ) (p q : Place) (r : Rest)
    → p.units < z → IsPrefix p.events q.events → TargetIsBelow by (running q.events) (r high) → Follows by c z p r (spent q)

-- a whole session, of which no more than one unit, one for each call and one for each of so many bytes aren't paid for
abbrev pub FollowedFromTheStart : Type 0
FollowedFromTheStart =
    (by : Comparison) (c z calls bytes : ℕ) (p : Place) (source target : Session) (run : Run (Unit {0}))
    → 1 ≤ c → z ≤ calls + bytes + 1 → Stands by p source → observed run ≡ Some (target p.units)
    → Follows by c z p source run → IsFollowed by source target (λ m. c * (m + calls + bytes + 1)) p.units

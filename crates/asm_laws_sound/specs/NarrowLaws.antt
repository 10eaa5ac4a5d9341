-- What is seen of a session of asm.js holds words of 32 bits alone: values go out, and come back, as ints.
use Rattle.std.specs.Prelude.{◌≡◌, ℕ, ◌⊎◌, [], Some}
use Rattle.std.specs.List.{AllByRecursion}
use Rattle.session_lang.specs.Script.{ScriptPlain}
use Rattle.session_lang.specs.Observation.{ObservationPlain, running}
use Rattle.session_lang.specs.Simulation.{Session}
use Rattle.session_lang.specs.Laws.{HasNarrowWords, EndsNarrow, IsNarrowSession}
use Rattle.asm_lang.specs.Modules.{Module}
use Rattle.asm_lang_exec.specs.Session.{asm}

pub record IsNarrowSight (seen : ObservationPlain) : Type 0 where
  pub events : AllByRecursion HasNarrowWords seen.events
  pub end : EndsNarrow seen.end

abbrev pub SightsAreNarrow : Type 0
SightsAreNarrow = (m : Module) (size : ℕ) (script : ScriptPlain) (units : ℕ) (seen : ObservationPlain) → asm m size script units ≡ Some seen → IsNarrowSight seen

-- where a session shows what is seen with each budget, and nothing where it goes wrong
abbrev pub SessionsAreNarrow : Type 0
SessionsAreNarrow =
    (m : Module) (size : ℕ) (script : ScriptPlain) (session : Session)
    → ((units : ℕ) → (asm m size script units ≡ Some (session units)) ⊎ (session units ≡ running [])) → IsNarrowSession session

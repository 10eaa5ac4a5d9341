-- What more units, and a larger bound on the depth of calls and on a loop's turns, change.
use Rattle.std.specs.Prelude.{◌≡◌, ℕ, ◌≤◌, Bool, Some}
use Rattle.session_lang.specs.Script.{ScriptPlain}
use Rattle.session_lang.specs.Observation.{ObservationPlain, IsBelow}
use Rattle.asm_lang.specs.Modules.{Module}
use Rattle.asm_lang_exec.specs.Session.{observed_within, asm, checked_asm}

-- the bound is none of the language: from the budget on, a larger one gives the same
abbrev pub BoundsChangeNothing : Type 0
BoundsChangeNothing = (checks : Bool) (m : Module) (size : ℕ) (script : ScriptPlain) (units bound : ℕ) → units ≤ bound → observed_within checks bound m size script units ≡ observed_within checks units m size script units

-- where both are there, what is seen with fewer units is below what is seen with more
abbrev pub SessionsGrow : Type 0
SessionsGrow =
    (m : Module) (size : ℕ) (script : ScriptPlain) (few many : ℕ) (seen later : ObservationPlain) → few ≤ many
    → asm m size script few ≡ Some seen → asm m size script many ≡ Some later → IsBelow seen later

abbrev pub CheckedSessionsGrow : Type 0
CheckedSessionsGrow =
    (m : Module) (size : ℕ) (script : ScriptPlain) (few many : ℕ) (seen later : ObservationPlain) → few ≤ many
    → checked_asm m size script few ≡ Some seen → checked_asm m size script many ≡ Some later → IsBelow seen later

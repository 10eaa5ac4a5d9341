-- What a session of an accepted module never does.
use Rattle.std.specs.Prelude.{◌≡◌, ℕ, suc, Some, None}
use Rattle.session_lang.specs.Script.{ScriptPlain}
use Rattle.session_lang.specs.Observation.{ObservationPlain, IsBelow}
use Rattle.asm_lang.specs.Modules.{Module}
use Rattle.asm_lang_valid.specs.Refusal.{IsAccepted}
use Rattle.asm_lang_exec.specs.Session.{asm, checked_asm}
use Rattle.asm_lang_exec.specs.Fits.{misfit}

-- the meaning isn't wrong: there is something to see, whatever the heap's length and the budget
abbrev pub AcceptedNeverGoWrong : Type 0
AcceptedNeverGoWrong = (m : Module) (size : ℕ) (script : ScriptPlain) (units : ℕ) → IsAccepted m → misfit m size script ≡ None → (seen : ObservationPlain) × (asm m size script units ≡ Some seen)

-- each value of an expression that has a type is one of it
abbrev pub ChecksChangeNothing : Type 0
ChecksChangeNothing = (m : Module) (size : ℕ) (script : ScriptPlain) (units : ℕ) → IsAccepted m → misfit m size script ≡ None → checked_asm m size script units ≡ asm m size script units

-- one unit more only adds to what is seen
pub record Grows (m : Module) (size : ℕ) (script : ScriptPlain) (units : ℕ) : Type 0 where
  pub seen : ObservationPlain
  pub later : ObservationPlain
  pub is_seen : asm m size script units ≡ Some seen
  pub is_later : asm m size script (suc units) ≡ Some later
  pub is_below : IsBelow seen later

abbrev pub AcceptedSessionsGrow : Type 0
AcceptedSessionsGrow = (m : Module) (size : ℕ) (script : ScriptPlain) (units : ℕ) → IsAccepted m → misfit m size script ≡ None → Grows m size script units

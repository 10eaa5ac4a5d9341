-- What is worked of a module: the text that says it, and sessions.
use Rattle.std.specs.Prelude.{◌≡◌, ℕ, List, Some, None}
use Rattle.session_lang.specs.Script.{ScriptPlain}
use Rattle.session_lang.specs.Observation.{ObservationPlain}
use Rattle.asm_lang.specs.Modules.{Module}
use Rattle.asm_lang.specs.Texts.{IsTextOf}
use Rattle.asm_lang_valid.specs.Refusal.{IsAccepted}
use Rattle.asm_lang_exec.specs.Session.{asm, checked_asm}
use Rattle.asm_lang_exec.specs.Fits.{misfit}

-- the text says the module, which is accepted
pub record Says (text : List ℕ) (m : Module) : Type 0 where
  pub is_text : IsTextOf text m
  pub is_accepted : IsAccepted m

-- with a heap of this length the script fits; this is seen of the session at the budget, and by the checked meaning too
pub record Shows (m : Module) (heap_length : ℕ) (script : ScriptPlain) (units : ℕ) (seen : ObservationPlain) : Type 0 where
  pub fits : misfit m heap_length script ≡ None
  pub is_seen : asm m heap_length script units ≡ Some seen
  pub is_checked : checked_asm m heap_length script units ≡ Some seen

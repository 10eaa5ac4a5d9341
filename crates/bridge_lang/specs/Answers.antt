-- What may be answered in place of an output.
use Rattle.std.specs.Prelude.{ℕ, List}
use Rattle.bridge_lang.specs.Command.{Action}
use Rattle.bridge_lang.specs.Job.{Job, refused, IsBarred, IsPlayed}
use Rattle.bridge_lang.specs.Runs.{Runner}
use Rattle.bridge_lang.specs.Reason.{Reason, read_fault, out_of_memory}

-- why a command doesn't take its module, or want of memory
pub data IsAnswered (a : Action) (bytes : List ℕ) : Reason → Type 0 where
  a_bar : {reason : Reason} → IsBarred a bytes reason → IsAnswered a bytes reason
  want_of_memory : IsAnswered a bytes out_of_memory

-- which line of a script isn't taken, or want of memory
pub data IsScriptAnswer (runner : Runner) (steps : ℕ) (script : List ℕ) : Reason → Type 0 where
  an_unfit_line : {reason : Reason} → IsPlayed runner steps script (refused reason) → IsScriptAnswer runner steps script reason
  no_room : IsScriptAnswer runner steps script out_of_memory

-- the refusal of one of these jobs, a failed read, or want of memory
pub data MayAnswer (Is : Job → Type 0) : Reason → Type 0 where
  a_refusal : {reason : Reason} → Is (refused reason) → MayAnswer Is reason
  a_read_fault : MayAnswer Is read_fault
  no_memory : MayAnswer Is out_of_memory

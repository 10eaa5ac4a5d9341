-- What a run promises.
use Rattle.std.specs.Prelude.{◌≡◌, ℕ}
use Rattle.session_lang.specs.Observation.{EndPlain}
use Rattle.asm_run_code.specs.Machine as code
use Rattle.asm_run_code.specs.Machine.{Codes, State, Came, going, back, halts, unpaid, and_on, followed}
use Rattle.asm_run_steps.specs.declared.ended.Ended.{Ended}
use Rattle.asm_run_steps.specs.declared.ended.Ended.TheVariants.{Back, Halted, Unpaid, Lost}

-- the host's call has ended
abbrev pub HasEnded : Came → Type 0
HasEnded (going s) = ⊥
HasEnded (back w s) = Unit {0}
HasEnded (halts e s) = Unit {0}
HasEnded (unpaid s) = Unit {0}
HasEnded code.lost = Unit {0}

-- what it has come to leads there, in some number of steps
abbrev pub Comes : Codes → Came → Came → Type 0
Comes c a r = (k : ℕ) × (and_on (followed k c) a ≡ r)

-- the host's call came to that, with this state; where the session is over, with this end
abbrev pub CameTo : Ended → EndPlain → State → Came → Type 0
CameTo (Back word) e s r = r ≡ back word s
CameTo Halted e s r = r ≡ halts e s
CameTo Unpaid e s r = r ≡ unpaid s
CameTo Lost e s r = r ≡ code.lost

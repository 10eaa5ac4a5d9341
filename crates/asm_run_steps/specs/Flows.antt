-- What an operation promises, and the operations of a function until it is left.
use Rattle.std.specs.Prelude.{◌≡◌, ℕ, ◌+◌, ◌*◌, ◌<◌, ◌≤◌, Bool, true, false, nat_le, ◌∷◌, Option, Some, None, slice_get, if◌then◌else◌}
use Rattle.session_lang.specs.Observation.{EndPlain}
use Rattle.asm_run_code.specs.declared.op.Op.{Op}
use Rattle.asm_run_code.specs.Machine as code
use Rattle.asm_run_code.specs.Machine.{Codes, State, Came, going, back, halts, unpaid, does, enters, gives_back}
use Rattle.asm_run_steps.specs.Plain.{WordsPlain}
use Rattle.asm_run_steps.specs.Worlds.{WorldPlain}
use Rattle.asm_run_steps.specs.States.{Callers, state_in}
use Rattle.asm_run_steps.specs.declared.ended.Ended.{Ended}
use Rattle.asm_run_steps.specs.declared.ended.Ended.TheVariants as ends
use Rattle.asm_run_steps.specs.declared.flow.Flow.{Flow}
use Rattle.asm_run_steps.specs.declared.flow.Flow.TheVariants.{On, Off}
use Rattle.asm_run_steps.specs.declared.flow.Leaving.{Leaving}
use Rattle.asm_run_steps.specs.declared.flow.Leaving.TheVariants.{Call, Give, Unpaid, Halted, Lost}

-- what a state comes to that leaves its function so; where the session is over, with this end
abbrev pub left_to : Codes → Leaving → EndPlain → State → Came
left_to c (Call function first) e s =
    enters (slice_get c.functions function) function (s.base + first) (record { function = s.function; at = s.at; base = s.base } ∷ s.callers) s
left_to c (Give word) e s = gives_back s.callers word s
left_to c Unpaid e s = unpaid s
left_to c Halted e s = halts e s
left_to c Lost e s = code.lost

abbrev pub came_of : Codes → Flow → EndPlain → State → Came
came_of c (On to) e s = going (record s { at = to })
came_of c (Off how) e s = left_to c how e s

-- the operation, where the address that follows is `at`, makes a flow of words and a world, and others of them
abbrev pub Does : Codes → Op → (at : ℕ) → WordsPlain → WorldPlain → Flow → EndPlain → WordsPlain → WorldPlain → Type 0
Does c op at w v flow e x y =
    (function : ℕ) (callers : Callers) → does c op (state_in function at callers w v) ≡ came_of c flow e (state_in function at callers x y)

-- a jump goes forward
abbrev pub jumped : (at to : ℕ) → Flow
jumped at to = if nat_le to at then On to else Off Lost

-- units are taken where a function calls another
abbrev pub LeftUnits : Leaving → (old new : ℕ) → Type 0
LeftUnits (Call function first) old new = new < old
LeftUnits (Give word) old new = new ≤ old
LeftUnits Unpaid old new = new ≤ old
LeftUnits Halted old new = new ≤ old
LeftUnits Lost old new = new ≤ old

-- .. and where an operation leads backwards: each address is below 2^32
abbrev pub Falls : (at : ℕ) → Flow → (old new : ℕ) → Type 0
Falls at (On to) old new = new * 4294967296 + to ≤ old * 4294967296 + at
Falls at (Off how) old new = LeftUnits how old new

-- whether a function was entered
abbrev pub entered_as : Bool → State → Came
entered_as true s = going s
entered_as false s = code.lost

-- whether there was a caller that a word was given back to
abbrev pub given_as : Bool → (word : ℕ) → State → Came
given_as true word s = going s
given_as false word s = back word s

-- another function goes on, or the host's call has ended; where the session is over, with this end
abbrev pub resumed : Option Ended → EndPlain → State → Came
resumed None e s = going s
resumed (Some (ends.Back word)) e s = back word s
resumed (Some ends.Halted) e s = halts e s
resumed (Some ends.Unpaid) e s = unpaid s
resumed (Some ends.Lost) e s = code.lost

-- a call has one caller more, and a return one fewer
abbrev pub ResumedCallers : Leaving → (old new : ℕ) → Type 0
ResumedCallers (Call function first) old new = new ≡ old + 1
ResumedCallers (Give word) old new = new + 1 ≡ old
ResumedCallers Unpaid old new = ⊥
ResumedCallers Halted old new = ⊥
ResumedCallers Lost old new = ⊥

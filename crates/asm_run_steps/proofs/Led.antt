-- Runs that come to an end, one step after the other.
use Rattle.std.proofs.Common.{◌≡◌, ℕ, zero, suc, ◌+◌, ◌-◌, ◌*◌, ◌<◌, ◌≤◌, List, Option, Some, None, sym, ap, subst, ◌∙◌, arith}
use Rattle.std.specs.Prelude.{slice_get}
use Rattle.session_lang.specs.Observation.{EndPlain}
use Rattle.asm_run_code.specs.declared.op.Op.{Op}
use Rattle.asm_run_code.specs.Machine.{Flat, Codes, State, Came, going, lost, does, does_one, step_in, step, and_on, followed, Leads}
use Rattle.asm_run_steps.specs.Plain.{WordsPlain}
use Rattle.asm_run_steps.specs.Worlds.{WorldPlain}
use Rattle.asm_run_steps.specs.States.{Callers, state_in}
use Rattle.asm_run_steps.specs.declared.flow.Flow.{Flow}
use Rattle.asm_run_steps.specs.declared.flow.Leaving.{Leaving}
use Rattle.asm_run_steps.specs.declared.flow.Leaving.TheVariants as leavings
use Rattle.asm_run_steps.specs.declared.ended.Ended.{Ended}
use Rattle.asm_run_steps.specs.declared.ended.Ended.TheVariants.{Back, Halted, Unpaid, Lost}
use Rattle.asm_run_steps.specs.Flows.{came_of, resumed, LeftUnits, ResumedCallers}
use Rattle.asm_run_steps.specs.Runs.{HasEnded, Comes, CameTo}

-- ---- steps

step_is : (c : Codes) (s : State) (f : Flat) (k : ℕ) (op : Op) → slice_get c.functions s.function ≡ Some f → s.at ≡ suc k → slice_get f.code k ≡ Some op
    → step c s ≡ does c op (record s { at = k })
unfolding step
step_is c s f k op found at here =
    ap (λ o. step_in c o s.at s) found ∙ ap (λ a. step_in c (Some f) a s) at ∙ ap (λ o. does_one c o (record s { at = k })) here

step_past : (c : Codes) (s : State) (f : Flat) (k : ℕ) → slice_get c.functions s.function ≡ Some f → s.at ≡ suc k → slice_get f.code k ≡ None → step c s ≡ lost
unfolding step
step_past c s f k found at here =
    ap (λ o. step_in c o s.at s) found ∙ ap (λ a. step_in c (Some f) a s) at ∙ ap (λ o. does_one c o (record s { at = k })) here

step_at_end : (c : Codes) (s : State) (f : Flat) → slice_get c.functions s.function ≡ Some f → s.at ≡ 0 → step c s ≡ lost
unfolding step
step_at_end c s f found at = ap (λ o. step_in c o s.at s) found ∙ ap (λ a. step_in c (Some f) a s) at

step_nowhere : (c : Codes) (s : State) → slice_get c.functions s.function ≡ None → step c s ≡ lost
unfolding step
step_nowhere c s found = ap (λ o. step_in c o s.at s) found

-- ---- what leads to an end

steps_on : (c : Codes) (s : State) (r : Came) → HasEnded r → Leads c s r → Comes c (step c s) r
unfolding followed
steps_on c s r ended (zero, e) = absurd (subst HasEnded (sym e) ended)
steps_on c s r ended (suc k, e) = (k, e)

steps_to : (c : Codes) (s : State) (a r : Came) → step c s ≡ a → HasEnded r → Leads c s r → Comes c a r
steps_to c s a r is ended leads = subst (λ a. Comes c a r) is (steps_on c s r ended leads)

-- an operation, after which the code goes on at the address before its own
pub goes_through : (c : Codes) (f : Flat) (code : List Op) (function at next : ℕ) (callers : Callers) (w x : WordsPlain) (v y : WorldPlain) (op : Op) (flow : Flow) (e : EndPlain) (r : Came)
    → slice_get c.functions function ≡ Some f → f.code ≡ code → at ≡ suc next → slice_get code next ≡ Some op → HasEnded r
    → does c op (state_in function next callers w v) ≡ came_of c flow e (state_in function next callers x y)
    → Leads c (state_in function at callers w v) r → Comes c (came_of c flow e (state_in function next callers x y)) r
goes_through c f code function at next callers w x v y op flow e r found is here got ended does_so leads =
    steps_to c (state_in function at callers w v) (came_of c flow e (state_in function next callers x y)) r
    (step_is c (state_in function at callers w v) f next op found here (ap (λ ops. slice_get ops next) is ∙ got) ∙ does_so) ended leads

pub is_lost_past : (c : Codes) (f : Flat) (code : List Op) (function at next : ℕ) (callers : Callers) (w : WordsPlain) (v : WorldPlain) (r : Came)
    → slice_get c.functions function ≡ Some f → f.code ≡ code → at ≡ suc next → slice_get code next ≡ None → HasEnded r
    → Leads c (state_in function at callers w v) r → Comes c lost r
is_lost_past c f code function at next callers w v r found is here got ended leads =
    steps_to c (state_in function at callers w v) lost r (step_past c (state_in function at callers w v) f next found here (ap (λ ops. slice_get ops next) is ∙ got)) ended leads

pub is_lost_at_end : (c : Codes) (f : Flat) (function at : ℕ) (callers : Callers) (w : WordsPlain) (v : WorldPlain) (r : Came)
    → slice_get c.functions function ≡ Some f → at ≡ 0 → HasEnded r → Leads c (state_in function at callers w v) r → Comes c lost r
is_lost_at_end c f function at callers w v r found here ended leads =
    steps_to c (state_in function at callers w v) lost r (step_at_end c (state_in function at callers w v) f found here) ended leads

pub is_lost_nowhere : (c : Codes) (s : State) (r : Came) → slice_get c.functions s.function ≡ None → HasEnded r → Leads c s r → r ≡ lost
is_lost_nowhere c s r found ended leads = ended_is (steps_to c s lost r (step_nowhere c s found) ended leads)
  where
    ended_is : Comes c lost r → r ≡ lost
    ended_is (k, e) = sym e

-- ---- a function that left off

pub goes_on : (c : Codes) (a r : Came) (s : State) → going s ≡ a → Comes c a r → Leads c s r
goes_on c a r s is comes = subst (λ a. Comes c a r) (sym is) comes

pub ends_so : (c : Codes) (x : Ended) (e : EndPlain) (s : State) (a r : Came) → resumed (Some x) e s ≡ a → Comes c a r → CameTo x e s r
ends_so c (Back word) e s a r is (k, comes) = sym comes ∙ sym (ap (and_on (followed k c)) is)
ends_so c Halted e s a r is (k, comes) = sym comes ∙ sym (ap (and_on (followed k c)) is)
ends_so c Unpaid e s a r is (k, comes) = sym comes ∙ sym (ap (and_on (followed k c)) is)
ends_so c Lost e s a r is (k, comes) = sym comes ∙ sym (ap (and_on (followed k c)) is)

-- a call takes a unit, and a return a caller
pub fewer : (how : Leaving) (u v k n : ℕ) → LeftUnits how u v → ResumedCallers how k n → v * 2 + n < u * 2 + k
fewer (leavings.Call function first) u v k n less more = omega (arith, less, more)
fewer (leavings.Give word) u v k n less more = omega (arith, less, more)
fewer leavings.Unpaid u v k n less more = absurd more
fewer leavings.Halted u v k n less more = absurd more
fewer leavings.Lost u v k n less more = absurd more

-- an operation gives back no unit
pub units_fall : (at to u v whole : ℕ) → at < 4294967296 → v * 4294967296 + to ≤ u * 4294967296 + (at - 1) → u ≤ whole → v ≤ whole
units_fall at to u v whole few less within = omega arith

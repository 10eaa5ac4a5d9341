-- What calls of the script come to, and what is seen of the session.
use Rattle.std.specs.Prelude.{◌≡◌, ℕ, List, [], map, Option, Some, None}
use Rattle.std.specs.Borrow.{Bor}
use Rattle.session_lang.specs.Script.{CallPlain}
use Rattle.session_lang.specs.Observation.{EndPlain, ObservationPlain, running, ended}
use Rattle.session_replies.specs.declared.seen.Seen.{Seen}
use Rattle.session_replies.specs.Views.{seen_of}
use Rattle.asm_lang.specs.Modules.{Function, Module}
use Rattle.asm_tree.specs.declared.tree.Function.{Function as CodeFunction}
use Rattle.asm_tree.specs.Views.{function_view}
use Rattle.asm_run_code.specs.Machine.{State}
use Rattle.asm_run_code.specs.Modules.{codes_of}
use Rattle.asm_run_code.specs.Sessions.{called, seen_by, function_at, key_number, flat_calls}
use Rattle.asm_run_steps.specs.Worlds.{WorldPlain}
use Rattle.asm_run_steps.specs.States.{state_in}
use Rattle.asm_run_state.specs.declared.host_calls.Hosted.{Hosted}
use Rattle.asm_run_state.specs.declared.host_calls.Hosted.TheVariants.{Goes, Ends, Stops, Wrong}

-- the calls after this one
abbrev pub Later : Type 0
Later = State → Option ObservationPlain

-- what is seen once a call has come to that, with this state; where the session is over, with this end
abbrev pub seen_hosted : Hosted → Later → EndPlain → State → Option ObservationPlain
seen_hosted Goes later e s = later s
seen_hosted Ends later e s = Some (ended s.events e s.heap)
seen_hosted Stops later e s = Some (running s.events)
seen_hosted Wrong later e s = None

-- what is seen of a call of the script, followed for any number of steps, is seen of what it came to
abbrev pub Calls : Module → CallPlain → State → Hosted → EndPlain → State → Type 0
Calls m call old h e new =
    (steps : ℕ) (later : Later) (o : ObservationPlain) → seen_by (function_at m (key_number m call.name)) later (called steps (codes_of m) m call old) ≡ Some o
    → seen_hosted h later e new ≡ Some o

abbrev pub seen_option : Option Seen → Option ObservationPlain
seen_option None = None
seen_option (Some o) = Some (seen_of o)

-- where no call has begun
abbrev pub resting : WorldPlain → State
resting w = state_in 0 0 [] (record { all = []; base = 0 }) w

-- what is seen of these calls, followed for any number of steps, is that
abbrev pub IsSession : Module → List CallPlain → WorldPlain → Option Seen → Type 0
IsSession m calls w seen =
    (steps : ℕ) (o : ObservationPlain) → flat_calls steps (codes_of m) m calls (resting w) ≡ Some o → seen_option seen ≡ Some o

-- the numbers of the functions that calls name, in order
abbrev pub callees_of : Module → List CallPlain → List (Option ℕ)
callees_of m cs = map (λ (c : CallPlain). key_number m c.name) cs

abbrev pub function_seen : Option (Bor CodeFunction) → Option Function
function_seen None = None
function_seen (Some f) = Some (function_view f.now)

-- Calls of the host: what the state has between them, and what comes of one.
use Rattle.std.specs.Prelude.{◌≡◌, ℕ, ◌+◌, ◌≤◌, []}
use Rattle.sem_words.specs.declared.js_value.JsValue.{JsValue}
use Rattle.session_lang.specs.Observation.{EndPlain}
use Rattle.asm_lang.specs.Modules.{Function, no_stmts}
use Rattle.asm_lang_exec.specs.Runs.{Place, Run, goes, stops, spent, wrong}
use Rattle.asm_run_laws.specs.Places.{Holds}
use Rattle.asm_run_code.specs.Machine.{Codes, State, Came, back, halts, unpaid, and_on, followed}
use Rattle.asm_run_code.specs.Sessions.{words_of}
use Rattle.asm_run_laws.specs.Frames.{Setting, word}

-- no function runs
abbrev pub nothing : Function
nothing = record { name = []; params = []; locals = []; body = no_stmts }

-- a state with what a place has; a call of the host looks at nothing else of it
abbrev pub resting : State → Place → State
resting t p = record t { globals = words_of p.globals; heap = p.heap; replies = p.replies; events = p.events; units = p.units }

-- what comes of a start after so many steps, and after each greater number of them
abbrev pub Comes : Codes → Came → Came → Type 0
Comes c start r = (k : ℕ) × ((j : ℕ) → and_on (followed (k + j) c) start ≡ r)

pub record Returns (s : Setting) (start : Came) (n : ℕ) (v : JsValue) (q : Place) : Type 0 where
  pub last : State
  pub comes : Comes s.codes start (back (word v) (resting last q))
  pub holds : Holds s.home s.heap nothing q
  pub few : q.units ≤ n

pub record Ended (s : Setting) (start : Came) (e : EndPlain) (q : Place) : Type 0 where
  pub last : State
  pub comes : Comes s.codes start (halts e last)
  pub events : last.events ≡ q.events
  pub heap : last.heap ≡ q.heap

pub record Unpaid (s : Setting) (start : Came) (q : Place) : Type 0 where
  pub last : State
  pub comes : Comes s.codes start (unpaid last)
  pub events : last.events ≡ q.events

-- a start comes to what a run says, which leaves at most n units; where the run is wrong nothing is asked
abbrev pub HostDoes : Setting → (n : ℕ) → Came → Run JsValue → Type 0
HostDoes s n start (goes v q) = Returns s start n v q
HostDoes s n start (stops e q) = Ended s start e q
HostDoes s n start (spent q) = Unpaid s start q
HostDoes s n start wrong = Unit {0}

-- What a session of WebAssembly shows by some number of reductions, where one of asm.js with so many units has come to its end, or has
-- used them up.
use Rattle.std.specs.Prelude.{◌≡◌, ℕ, ◌+◌, ◌-◌, ◌*◌, ◌≤◌, [], ◌++◌, length, map, replicate}
use Rattle.session_lang.specs.Script.{ScriptPlain}
use Rattle.session_lang.specs.Observation.{done, ObservationPlain, running, ended}
use Rattle.session_lang.specs.Simulation.{Session}
use Rattle.session_lang.specs.CallingForms.{script_to_wasm, event_to_wasm, end_to_wasm}
use Rattle.wasm_lang_valid.specs.Runnable.{pages}
use Rattle.wasm_lang_exec.specs.Session.{bytes_in, imported_globals}
use Rattle.asm_lang.specs.Modules.{no_stmts, Function, Module}
use Rattle.asm_lang_exec.specs.Runs.{Run, goes, stops, spent, wrong}
use Rattle.asm_lang_exec.specs.Session.{heap_length}
use Rattle.asm2wasm_translation.specs.Modules.{translation}
use Rattle.asm2wasm_laws_run.specs.State.{Fixed, IsNoTrap}
use Rattle.asm2wasm_laws_acceptance.specs.Laws.{table_entries}

-- the host, where its calls stand, has no variables
abbrev pub host : Function
host = record { name = []; params = []; locals = []; body = no_stmts }

-- what no code changes along the session of a script that fits the text: the bytes past the heap are 0, and the machine's replies are those of the text
abbrev pub fixed_for : Module → ℕ → ScriptPlain → Fixed
fixed_for m size s = let w = translation m size in record {
  past = λ rs. replicate (bytes_in (pages w) - heap_length m size) 0;
  replied = λ rs. rs;
  given = imported_globals (script_to_wasm s) w.imports;
  entries = table_entries m;
}

-- this is seen by so many reductions: no more than the units are worth, and some more
pub record Shows (worth more units : ℕ) (seen : ObservationPlain) (session : Session) : Type 0 where
  pub budget : ℕ
  pub within : budget ≤ more + worth * units
  pub by : session budget ≡ seen

-- with bytes past a heap of this length
module _ (x : Fixed) (long worth : ℕ) where
  -- what a run shows is shown, in no fewer reductions than units where these are used up; where it is wrong nothing is asked
  abbrev pub Reaches : (more units : ℕ) → Session → Run (Unit {0}) → Type 0
  Reaches more units session (goes u p) = (length p.heap ≡ long) × Shows worth more units (ended (map event_to_wasm p.events) done (p.heap ++ x.past p.replies.left)) session
  Reaches more units session (stops e p) =
      IsNoTrap e × (length p.heap ≡ long) × Shows worth more units (ended (map event_to_wasm p.events) (end_to_wasm e) (p.heap ++ x.past p.replies.left)) session
  Reaches more units session (spent p) = (h : Shows worth more units (running (map event_to_wasm p.events)) session) × (units ≤ h.budget)
  Reaches more units session wrong = Unit {0}

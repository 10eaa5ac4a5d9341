-- Which modules of WebAssembly may stand for one of asm.js, how far apart their budgets lie, and which bytes are written of one.
use Rattle.std.specs.Prelude.{◌≡◌, ◌≢◌, ℕ, ◌+◌, ◌*◌, ◌≤◌, List, [], ◌∷◌, length, max, Option, Some, None}
use Rattle.session_lang.specs.Script.{ScriptPlain}
use Rattle.session_lang.specs.Observation.{ObservationPlain, running}
use Rattle.session_lang.specs.Simulation.{Session, Comparison, SourceIsBelow, TargetIsBelow, Sim}
use Rattle.session_lang.specs.CallingForms.{script_to_wasm, comparison_to_wasm}
use Rattle.wasm_lang.specs.Modules.{WasmModule}
use Rattle.wasm_lang.specs.Grammar.{IsModuleBytes}
use Rattle.wasm_lang_valid.specs.Validity.{IsValidModule}
use Rattle.wasm_lang_exec.specs.Session.{first_memory, wasm}
use Rattle.wasm_lang_exec.specs.Fits as machine
use Rattle.asm_lang.specs.Modules.{Function, Module}
use Rattle.asm_lang_valid.specs.Rows.{function_count}
use Rattle.asm2wasm_lang.specs.Counts.{body_clauses}
use Rattle.asm_lang_exec.specs.Session.{asm}
use Rattle.asm_lang_exec.specs.Fits.{misfit}
use Rattle.asm2wasm_lang.specs.Calling.{IsCalledAs}

-- ---- sessions

-- a session that goes wrong shows nothing
abbrev pub or_nothing : Option ObservationPlain → ObservationPlain
or_nothing None = running []
or_nothing (Some seen) = seen

-- the session of a script with the module of asm.js, by units, and with the module of WebAssembly, by reductions
abbrev pub source_session : Module → ℕ → ScriptPlain → Session
source_session m size s n = or_nothing (asm m size s n)

abbrev pub target_session : WasmModule → ScriptPlain → Session
target_session w s n = wasm w (script_to_wasm s) n

-- foreign names are compared as imports, and the memory past the heap with what it was
abbrev pub comparison : WasmModule → ScriptPlain → Comparison
comparison w s = comparison_to_wasm (first_memory w (script_to_wasm s))

-- ---- what may be written

-- It is valid and called as asked. Each script that fits the one fits the other; then the session of the text never goes wrong, and the
-- two sessions show the same.
pub record IsAllowed (m : Module) (size : ℕ) (w : WasmModule) : Type 0 where
  pub valid : IsValidModule w
  pub called : IsCalledAs m size w
  pub fits : (s : ScriptPlain) → misfit m size s ≡ None → machine.misfit w (script_to_wasm s) ≡ None
  pub never_wrong : (s : ScriptPlain) → misfit m size s ≡ None → (units : ℕ) → asm m size s units ≢ None
  pub simulates : (s : ScriptPlain) → misfit m size s ≡ None → Sim (comparison w s) (source_session m size s) (target_session w s)

-- the bytes spell the module, and no spelling of it is shorter
pub record IsShortest (bytes : List ℕ) (w : WasmModule) : Type 0 where
  pub spells : IsModuleBytes bytes w
  pub no_shorter : (other : List ℕ) → IsModuleBytes other w → length bytes ≤ length other

-- ---- bounded steps

-- the most nodes and clauses of a function; 0 where there is none
abbrev pub most_nodes : List Function → ℕ
most_nodes [] = 0
most_nodes (f ∷ fs) = max (function_count f + body_clauses f.body) (most_nodes fs)

-- reductions that are enough for so many units
abbrev pub enough_for : Module → ScriptPlain → ℕ → ℕ
enough_for m s units = 64 * (most_nodes m.functions + 1) * (units + length s.calls + 1)

-- a unit is worth no fewer than one reduction, and no more than a number that the largest function gives
pub record IsBounded (m : Module) (size : ℕ) (w : WasmModule) : Type 0 where
  pub no_fewer : (s : ScriptPlain) → misfit m size s ≡ None → (n : ℕ) → TargetIsBelow (comparison w s) (target_session w s n) (source_session m size s n)
  pub no_more : (s : ScriptPlain) → misfit m size s ≡ None → (n : ℕ) → SourceIsBelow (comparison w s) (source_session m size s n) (target_session w s (enough_for m s n))

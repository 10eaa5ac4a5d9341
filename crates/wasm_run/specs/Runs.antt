-- What is seen of a session, by what its parts come to.
use Rattle.std.specs.Prelude.{ℕ, zero, suc, ◌&&◌, Option, Some, None}
use Rattle.session_lang.specs.declared.observation.End.{End}
use Rattle.session_lang.specs.Observation.{ObservationPlain}
use Rattle.session_lang.specs.Script.{ScriptPlain}
use Rattle.session_lang.specs.Views.{end_of}
use Rattle.wasm_lang.specs.Modules.{WasmModule}
use Rattle.wasm_lang_exec.specs.Session.{seen_running, seen_end, instantiated, entries_fit, bytes_fit}
use Rattle.wasm_lang_exec.specs.Store.{Store}
use Rattle.wasm_run_machine.specs.declared.running.Ran.{Ran}
use Rattle.wasm_run_machine.specs.declared.running.Ran.TheVariants.{Back, Over, Spent}

-- with this store: the end, or the session is running
abbrev pub seen_as : Option End → Store → ObservationPlain
seen_as None s = seen_running s
seen_as (Some e) s = seen_end (end_of e) s

-- what follows a host's call that came to this
abbrev pub after_ran : Ran → Store → (ℕ → Store → ObservationPlain) → ObservationPlain
after_ran (Back left) s next = next left s
after_ran (Over e) s next = seen_end (end_of e) s
after_ran Spent s next = seen_running s

-- a session from a store on, as it is instantiated
abbrev pub begun : WasmModule → ScriptPlain → ℕ → Store → ObservationPlain
begun m script zero s = seen_running s
begun m script (suc n) s = instantiated (entries_fit s m.elements && bytes_fit s m.segments) m script n s

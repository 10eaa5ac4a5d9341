-- A session of asm.js begins as that of WebAssembly does: `$init` stores the segments and calls the start function.
use Rattle.std.specs.Prelude.{◌≡◌, ℕ, ◌+◌, ◌≤◌, true, ◌&&◌, List, [], length}
use Rattle.std.specs.List.{flat_map}
use Rattle.session_lang.specs.Script.{ScriptPlain}
use Rattle.wasm_lang.specs.Modules.{WasmModule}
use Rattle.wasm_lang_exec.specs.Session.{first_store, entries_fit, bytes_fit, with_entries, with_bytes}
use Rattle.asm_lang_valid.specs.Typed.{scope_of}
use Rattle.asm_lang_exec.specs.Runs.{Place, Part, gives}
use Rattle.asm_lang_exec.specs.Meaning.{Completion, normal}
use Rattle.asm_lang_exec.specs.Session.{first_place}
use Rattle.asm_laws_continuation.specs.Following.{exec_all_to, call_at_to, host_calls_to}
use Rattle.wasm2js_translation.specs.Words.{stmts_in}
use Rattle.wasm2js_lang.specs.Heaps.{heap_bytes}
use Rattle.wasm2js_lang.specs.Calling.{IsCalledAs}
use Rattle.wasm2js_lang.specs.Allowed.{script_for, source_session, comparison}
use Rattle.wasm2js_translation.specs.Modules.{segment_stmts, init_function, translated}
use Rattle.wasm2js_laws_acceptance.specs.FunctionsFunctions.{IsSource}
use Rattle.wasm2js_laws_places.specs.Following.{Follows}
use Rattle.wasm2js_laws_places.specs.Places.{store_of, World}
use Rattle.wasm2js_laws_simulation.specs.HostHosts.{starting, Matches, setting_of, HostedCallsFollow}
use Rattle.wasm2js_laws_simulation.specs.HostLaws.{CallsOfHostFollow}
use Rattle.wasm2js_laws_simulation.specs.SegmentsLaws.{segments_units, Takes}

-- where the session of a script begins in asm.js
abbrev pub begins_at : WasmModule → ScriptPlain → (units : ℕ) → Place
begins_at w s units = first_place (translated w) (heap_bytes w) (script_for w s) units

-- .. with this heap
abbrev pub begins_with : WasmModule → ScriptPlain → (heap : List ℕ) → (units : ℕ) → Place
begins_with w s heap units = record (begins_at w s units) { heap = heap }

-- The segments are stored, and no segment lies outside. The place after them stands for the store after instantiation.
pub record IsStored (w : WasmModule) (s : ScriptPlain) : Type 0 where
  pub heap : List ℕ
  pub stores : (bound units : ℕ) (next : Completion → Part (Unit {0})) → units ≤ bound
      → Takes (segments_units w.segments) heap (begins_at w s units) (next normal)
      (exec_all_to (call_at_to (translated w) bound) (scope_of (translated w) (init_function w)) bound (stmts_in (flat_map segment_stmts w.segments)) next (begins_at w s units))
  pub fit : (entries_fit (first_store w s) w.elements && bytes_fit (first_store w s) w.segments) ≡ true
  pub world : (units : ℕ) → World (setting_of w s) (Matches starting) [] (begins_with w s heap units)
  pub store : (units : ℕ) → store_of (setting_of w s) (begins_with w s heap units) [] ≡ with_bytes w.segments (with_entries w.elements (first_store w s))

-- what the calls of a session come to follows the session; one unit for `$init`, one for each call, and those of segments are paid by no reduction
abbrev pub SessionFollows : WasmModule → ScriptPlain → (pace : ℕ) → Type 0
SessionFollows w s pace =
    (units : ℕ) → Follows (comparison w (translated w) s) pace (length s.calls + segments_units w.segments + 1) (begins_at w s units) (source_session w s)
    (host_calls_to (call_at_to (translated w) units) (translated w) (script_for w s).calls gives (begins_at w s units))

-- `$init` follows instantiation and the start function, where calls follow, and the calls of the script after it do
abbrev pub InitFollows : Type 0
InitFollows =
    (w : WasmModule) (s : ScriptPlain) (pace : ℕ) → IsSource w → IsCalledAs w (translated w) → 1 ≤ pace → HostedCallsFollow w pace → IsStored w s
    → ((bound : ℕ) → CallsOfHostFollow w s pace bound s.calls) → SessionFollows w s pace

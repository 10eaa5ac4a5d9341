-- Calls of the host follow, where calls do.
use Rattle.std.specs.Prelude.{◌≡◌, ℕ, ◌≤◌, true, List, [], length}
use Rattle.std.specs.List.{AllByRecursion, flat_map}
use Rattle.session_lang.specs.Script.{CallPlain, ScriptPlain}
use Rattle.session_lang.specs.Observation.{EventPlain}
use Rattle.session_lang.specs.CallingForms.{split_call}
use Rattle.wasm_lang.specs.Modules.{WasmModule}
use Rattle.wasm_lang_exec.specs.Session.{calls_seen}
use Rattle.wasm_lang_exec.specs.Fits.{fits_call}
use Rattle.asm_lang_exec.specs.Runs.{Place, gives}
use Rattle.asm_laws_continuation.specs.Following.{call_at_to, host_calls_to}
use Rattle.wasm2js_lang.specs.Calling.{shapes_of}
use Rattle.wasm2js_lang.specs.Allowed.{comparison}
use Rattle.wasm2js_translation.specs.Modules.{translated}
use Rattle.wasm2js_laws_acceptance.specs.FunctionsFunctions.{IsSource}
use Rattle.wasm2js_laws_places.specs.Following.{Follows}
use Rattle.wasm2js_laws_places.specs.Places.{store_of, World}
use Rattle.wasm2js_laws_simulation.specs.HostHosts.{calling, Matches, setting_of, HostedCallsFollow}

-- From each place where `$init` is back, what the calls in asm.js come to follows what is left of the session. A call of `$hi` takes a unit
-- that no reduction pays for, and there is at most one for each call of the script.
abbrev pub CallsOfHostFollow : WasmModule → ScriptPlain → (pace bound : ℕ) → List CallPlain → Type 0
CallsOfHostFollow w s pace bound cs =
    (p : Place) (events : List EventPlain) → p.units ≤ bound → p.locals ≡ [] → World (setting_of w s) (Matches calling) events p
    → Follows (comparison w (translated w) s) pace (length cs) p (λ n. calls_seen w cs n (store_of (setting_of w s) p events))
    (host_calls_to (call_at_to (translated w) bound) (translated w) (flat_map (split_call (shapes_of w)) cs) gives p)

abbrev pub HostCallsFollow : Type 0
HostCallsFollow =
    (w : WasmModule) (s : ScriptPlain) (pace bound : ℕ) (cs : List CallPlain) → IsSource w → 1 ≤ pace → HostedCallsFollow w pace
    → AllByRecursion (λ c. fits_call w c ≡ true) cs → CallsOfHostFollow w s pace bound cs

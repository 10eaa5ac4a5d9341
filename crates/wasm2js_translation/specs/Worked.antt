-- What is computed of the small modules: their code, and what is seen of sessions in both languages.
use Rattle.std.specs.Prelude.{◌≡◌, ℕ, List, [], map, take, Option, Some, None, option_map, is_some, true, bytes_eq}
use Rattle.std.specs.List.{find, flat_map}
use Rattle.session_lang.specs.Script.{ScriptPlain}
use Rattle.session_lang.specs.Observation.{EventPlain, ObservationPlain, as_stop}
use Rattle.session_lang.specs.CallingForms.{ShapePlain, split, split_event, split_end, without_init}
use Rattle.wasm_lang.specs.Modules.{WasmModule}
use Rattle.wasm_lang_valid.specs.Profile.{memory_bytes, outside_profile}
use Rattle.wasm_lang_exec.specs.Session.{wasm}
use Rattle.wasm_lang_exec.specs.Fits as source_fits
use Rattle.asm_lang.specs.Modules.{Function}
use Rattle.asm_lang.specs.Printing.{joined, globals_text, function_text, tables_text, exports_text}
use Rattle.asm_lang_exec.specs.Session.{asm}
use Rattle.asm_lang_exec.specs.Fits as target_fits
use Rattle.asm_lang_valid.specs.Refusal.{IsAccepted}
use Rattle.wasm2js_lang.specs.Heaps.{heap_bytes}
use Rattle.wasm2js_translation.specs.Modules.{helpers, translated}

-- ---- code

abbrev pub text_if : Option Function → List ℕ
text_if None = []
text_if (Some f) = joined [] (function_text f)

-- the canonical text of the function of this name
abbrev pub text_of : WasmModule → (name : List ℕ) → List ℕ
text_of w name = text_if (find (λ f. bytes_eq f.name name) (translated w).functions)

abbrev pub helper_names : WasmModule → List (List ℕ)
helper_names w = map (λ (f : Function). f.name) (helpers w)

abbrev pub tables_of : WasmModule → List ℕ
tables_of w = joined [] (tables_text (translated w).tables)

abbrev pub variables_of : WasmModule → List ℕ
variables_of w = joined [] (globals_text (translated w).globals)

abbrev pub exports_of : WasmModule → List ℕ
exports_of w = joined [] (exports_text (translated w).exports)

-- ---- sessions

-- what is seen of the translation with so many units
abbrev pub target_seen : WasmModule → List ShapePlain → ScriptPlain → ℕ → Option ObservationPlain
target_seen w shapes script n = asm (translated w) (heap_bytes w) (split shapes script) n

abbrev pub events_at : WasmModule → List ShapePlain → ScriptPlain → ℕ → Option (List EventPlain)
events_at w shapes script n = option_map (λ o. o.events) (target_seen w shapes script n)

-- so many bytes of the heap at the end
abbrev pub first_bytes : ℕ → WasmModule → List ShapePlain → ScriptPlain → ℕ → Option (List ℕ)
first_bytes count w shapes script n = option_map (λ o. take count o.heap) (target_seen w shapes script n)

-- a sight of the source in the target's terms, and one of the target, of whose heap so many bytes are those of the memory

abbrev pub from_source : ObservationPlain → ObservationPlain
from_source o = record { events = flat_map split_event o.events; end = option_map (λ e. as_stop (split_end e)) o.end; heap = o.heap }

abbrev pub from_target : (bytes : ℕ) → ObservationPlain → ObservationPlain
from_target bytes o = record { events = without_init o.events; end = option_map as_stop o.end; heap = take bytes o.heap }

-- the module is within the limits and its translation is accepted; the script fits, and so does the target's; with so many reductions and units both sessions come to their
-- ends, and show the same
pub record IsAlike (w : WasmModule) (shapes : List ShapePlain) (script : ScriptPlain) (reductions units : ℕ) : Type 0 where
  pub within : outside_profile w ≡ None
  pub accepted : IsAccepted (translated w)
  pub fits : source_fits.misfit w script ≡ None
  pub target_fits : target_fits.misfit (translated w) (heap_bytes w) (split shapes script) ≡ None
  pub ends : is_some (wasm w script reductions).end ≡ true
  pub same : option_map (from_target (memory_bytes w)) (target_seen w shapes script units) ≡ Some (from_source (wasm w script reductions))

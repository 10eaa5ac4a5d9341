-- The host as a caller of the functions of a translated module: what stays the same along a session, and what is asked of calls.
use Rattle.std.specs.Prelude.{◌≡◌, ℕ, ◌≤◌, Bool, true, false, List, [], ◌∷◌, ◌++◌, map, drop, if◌then◌else◌}
use Rattle.std.specs.List.{flat_map, list_any}
use Rattle.sem_words.specs.declared.word.Word.{Word}
use Rattle.sem_words.specs.declared.word.Word.TheVariants.{W64}
use Rattle.session_lang.specs.Script.{ScriptPlain}
use Rattle.session_lang.specs.Observation.{EventPlain, import_called, call_gave, call_returned, EndPlain, ObservationPlain}
use Rattle.session_lang.specs.CallingForms.{split_word, split_event, without_init, comparison_to_asm}
use Rattle.wasm_lang.specs.declared.types.GlobalType.{GlobalType}
use Rattle.wasm_lang.specs.Modules.{WasmModule}
use Rattle.wasm_lang_valid.specs.ModuleRules.{global_types}
use Rattle.wasm_lang_valid.specs.Profile.{memory_bytes}
use Rattle.wasm_lang_exec.specs.Store.{Store}
use Rattle.wasm_lang_exec.specs.Session.{seen_end, seen_running}
use Rattle.wasm_laws_drive.specs.Drive.{Outcome, Ended, Spent}
use Rattle.asm_lang_valid.specs.Scope.{is_in}
use Rattle.asm_lang_valid.specs.Typed.{scope_of}
use Rattle.asm_lang_exec.specs.Session.{first_globals, first_heap}
use Rattle.asm_laws_continuation.specs.Following.{call_at_to}
use Rattle.wasm2js_translation.specs.Names.{Name, spelled}
use Rattle.wasm2js_lang.specs.Tables.{entries_of}
use Rattle.wasm2js_lang.specs.Heaps.{heap_bytes}
use Rattle.wasm2js_lang.specs.Allowed.{script_for, comparison}
use Rattle.wasm2js_translation.specs.Modules.{context_of, init_function, translated}
use Rattle.wasm2js_translation.specs.Tables.{cell_count}
use Rattle.wasm2js_laws_acceptance.specs.ProvidedLaws.{is_called}
use Rattle.wasm2js_laws_acceptance.specs.FunctionsFunctions.{IsSource}
use Rattle.wasm2js_laws_places.specs.Places.{is_own, names_in, Setting}
use Rattle.wasm2js_laws_preservation.specs.ControlControl.{Function, Match}
use Rattle.wasm2js_laws_simulation.specs.CallsCalled.{CallsFollow}

-- ---- events in the two parts of a session: until `$init` is back, and from then on

pub data Phase : Type 0 where
  starting : Phase
  calling : Phase

abbrev pub is_return : EventPlain → Bool
is_return call_returned = true
is_return e = false

abbrev pub has_return : List EventPlain → Bool
has_return events = list_any is_return events

-- no event of WebAssembly goes over to this one
abbrev pub no_match : List EventPlain
no_match = call_gave (W64 0) ∷ []

-- the events of asm.js that count: while `$init` runs no call is back, and from then on the first one that came back doesn't count
abbrev pub shown_in : Phase → List EventPlain → List EventPlain
shown_in starting events = if has_return events then no_match else events
shown_in calling events = if has_return events then without_init events else no_match

abbrev pub Matches : Phase → List EventPlain → List EventPlain → Type 0
Matches phase source target = flat_map split_event source ≡ shown_in phase target

-- ---- what stays the same

abbrev pub setting_of : WasmModule → ScriptPlain → Setting
setting_of w s = record {
  bytes = memory_bytes w;
  past = drop (memory_bytes w) (first_heap (translated w) (heap_bytes w) (script_for w s));
  kinds = map (λ (g : GlobalType). g.kind) (global_types w);
  table = entries_of w;
  names = names_in (first_globals (script_for w s) (translated w).globals);
}

-- The host, where so many units are worth a reduction, calls lie at most so deep, and so many units may be taken that no reduction pays
-- for; of an outcome of WebAssembly this is seen. It has no variables, and stands in the scope of the function that begins a session.
abbrev pub host : WasmModule → ScriptPlain → (pace bound : ℕ) → Phase → (unpaid : ℕ) → (Outcome → ObservationPlain) → Function
host w s pace bound phase unpaid watch = record {
  home = w;
  watch = watch;
  by = comparison w (translated w) s;
  pace = pace;
  unpaid = unpaid;
  context = context_of w (record { params = []; results = [] }) [];
  called = is_called w;
  cells = cell_count w;
  scope = scope_of (translated w) (init_function w);
  calls = call_at_to (translated w) bound;
  bound = bound;
  own = [];
  setting = setting_of w s;
  source_shown = flat_map split_event;
  target_shown = shown_in phase;
}

-- ---- what is asked of calls

-- what holds of the host, and of each function that it calls
pub record IsHosted (f : Function) : Type 0 where
  pub source : IsSource f.home
  pub home : f.scope.home ≡ translated f.home
  pub calls : f.calls ≡ call_at_to f.scope.home f.bound
  -- the calling form, and how events match: where they do, what counts of them is the same, and a call of an import adds alike
  pub form : f.by ≡ comparison_to_asm f.by.first_heap
  pub match : (source target : List EventPlain) → Match f source target → f.by.source_events source ≡ f.by.target_events target
  pub imports : (source target : List EventPlain) (name : List ℕ) (args : List Word) → Match f source target
      → Match f (source ++ import_called name args ∷ []) (target ++ import_called name (flat_map split_word args) ∷ [])
  -- what is seen of ends, and where reductions are used up
  pub ended : (e : EndPlain) (s : Store) → f.watch (Ended e s) ≡ seen_end e s
  pub spent : (s : Store) → f.watch (Spent s) ≡ seen_running s
  pub some : 1 ≤ f.pace
  -- what stays the same is what the module says, and no variable of a function is among the module's
  pub bytes : f.setting.bytes ≡ memory_bytes f.home
  pub past : f.setting.past ≡ drop f.setting.bytes f.by.first_heap
  pub kinds : f.setting.kinds ≡ map (λ (g : GlobalType). g.kind) (global_types f.home)
  pub table : f.setting.table ≡ entries_of f.home
  pub names : (n : Name) → is_own n ≡ true → is_in (spelled n) f.setting.names ≡ false

-- calls follow, at this pace, from each caller of which that holds
abbrev pub HostedCallsFollow : WasmModule → (pace : ℕ) → Type 0
HostedCallsFollow w pace = (f : Function) → f.home ≡ w → f.pace ≡ pace → IsHosted f → CallsFollow f

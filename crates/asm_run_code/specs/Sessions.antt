-- A session by the flat code of a module: the script's calls one after the other, each followed for at most so many steps.
use Rattle.std.specs.Prelude.{ℕ, List, [], ◌∷◌, ◌++◌, length, map, Option, Some, None, slice_get, if◌then◌else◌}
use Rattle.sem_words.specs.declared.word.Word.TheVariants.{W32}
use Rattle.sem_words.specs.Words.{word_of}
use Rattle.sem_words.specs.JsValues.{to_uint32_of}
use Rattle.session_lang.specs.Script.{CallPlain, ScriptPlain}
use Rattle.session_lang.specs.Imports.{first_replies}
use Rattle.session_lang.specs.Observation.{EventPlain, call_gave, call_returned, done, ObservationPlain, running, ended}
use Rattle.asm_lang.specs.Modules.{Function, Module}
use Rattle.asm_lang_valid.specs.Scope.{signature_of}
use Rattle.asm_lang_valid.specs.Refusal.{exported_from}
use Rattle.asm_lang_exec.specs.Runs.{Binding}
use Rattle.asm_lang_exec.specs.Session.{first_globals, first_heap, export_number}
use Rattle.asm_run_code.specs.Machine.{Codes, State, Came, going, back, halts, unpaid, lost, pays, enters, and_on, followed}
use Rattle.asm_run_code.specs.Modules.{codes_of}

abbrev pub words_of : List Binding → List ℕ
words_of bs = map (λ (b : Binding). to_uint32_of b.value) bs

abbrev pub first_state : Module → (heap_length : ℕ) → ScriptPlain → (units : ℕ) → State
first_state m length script units = record {
  function = 0;
  at = 0;
  base = 0;
  words = [];
  callers = [];
  globals = words_of (first_globals script m.globals);
  heap = first_heap m length script;
  replies = first_replies script;
  events = [];
  units = units;
}

-- a host's call takes a unit, and begins with the words of its arguments
abbrev pub begins : Codes → (function : ℕ) → (words : List ℕ) → State → Came
begins c function words s = pays s (λ t. enters (slice_get c.functions function) function 0 [] (record t { words = words }))

abbrev pub event_of : Function → (word : ℕ) → EventPlain
event_of f word = if (signature_of f).result then call_gave (W32 word) else call_returned

abbrev pub seen_after : EventPlain → (State → Option ObservationPlain) → State → Option ObservationPlain
seen_after event more s = more (record s { events = s.events ++ event ∷ [] })

-- what is seen once a call of the function has come to something
abbrev pub seen_of : Function → (State → Option ObservationPlain) → Came → Option ObservationPlain
seen_of f more (going s) = None
seen_of f more (back word s) = seen_after (event_of f word) more s
seen_of f more (halts e s) = Some (ended s.events e s.heap)
seen_of f more (unpaid s) = Some (running s.events)
seen_of f more lost = None

abbrev pub seen_by : Option Function → (State → Option ObservationPlain) → Came → Option ObservationPlain
seen_by None more r = None
seen_by (Some f) more r = seen_of f more r

abbrev pub function_at : Module → Option ℕ → Option Function
function_at m None = None
function_at m (Some i) = slice_get m.functions i

abbrev pub number_at : Option ℕ → ℕ
number_at None = 0
number_at (Some i) = i

abbrev pub key_number : Module → List ℕ → Option ℕ
key_number m key = export_number (exported_from m m.exports) key

abbrev pub called : (steps : ℕ) → Codes → Module → CallPlain → State → Came
called steps c m call s = and_on (followed steps c) (begins c (number_at (key_number m call.name)) (map (word_of 32) call.args) s)

abbrev pub flat_calls : (steps : ℕ) → Codes → Module → List CallPlain → State → Option ObservationPlain
flat_calls steps c m [] s = Some (ended s.events done s.heap)
flat_calls steps c m (call ∷ calls) s = seen_by (function_at m (key_number m call.name)) (flat_calls steps c m calls) (called steps c m call s)

-- None where a call has not come to its end by then
abbrev pub flat_session : (steps : ℕ) → Module → (heap_length : ℕ) → ScriptPlain → (units : ℕ) → Option ObservationPlain
flat_session steps m length script units = flat_calls steps (codes_of m) m script.calls (first_state m length script units)

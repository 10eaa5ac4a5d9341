-- How a script and what is seen of a session go over to the other language.
use Rattle.std.specs.Prelude.{ℕ, ◌-◌, ◌%◌, ◌^◌, Bool, true, false, if◌then◌else◌, ℤ, pos, negsuc, List, [], ◌∷◌, ◌++◌, Option, Some, None, codes, map}
use Rattle.std.specs.List.{find, flat_map}
use Rattle.std.specs.Str.{bytes_eq}
use Rattle.sem_words.specs.declared.word.Word.{Word}
use Rattle.sem_words.specs.declared.word.Word.TheVariants.{W32, W64}
use Rattle.session_lang.specs.Script.{GlobalPlain, CallPlain, ScriptPlain}
use Rattle.session_lang.specs.Observation.{EventPlain, import_called, call_gave, call_returned, EndPlain, done, stopped, no_reply, trapped}
use Rattle.session_lang.specs.Imports.{low_word, high_word}
use Rattle.session_lang.specs.Names.{import_name, export_name}
use Rattle.session_lang.specs.Simulation.{Comparison}

-- ---- from asm.js to WebAssembly: a foreign name is imported from the module `env`, and nothing else changes

abbrev pub foreign_import : List ℕ → List ℕ
foreign_import name = import_name (codes "env") name

abbrev pub global_to_wasm : GlobalPlain → GlobalPlain
global_to_wasm g = record g { name = foreign_import g.name }

abbrev pub script_to_wasm : ScriptPlain → ScriptPlain
script_to_wasm s = record s { globals = map global_to_wasm s.globals }

abbrev pub event_to_wasm : EventPlain → EventPlain
event_to_wasm (import_called name args) = import_called (foreign_import name) args
event_to_wasm (call_gave word) = call_gave word
event_to_wasm call_returned = call_returned

abbrev pub end_to_wasm : EndPlain → EndPlain
end_to_wasm done = done
end_to_wasm (stopped name args) = stopped (foreign_import name) args
end_to_wasm (no_reply name args) = no_reply (foreign_import name) args
end_to_wasm (trapped kind) = trapped kind

abbrev pub comparison_to_wasm : List ℕ → Comparison
comparison_to_wasm first_heap = record {
  source_events = map event_to_wasm;
  target_events = λ events. events;
  source_end = end_to_wasm;
  first_heap = first_heap;
}

-- ---- from WebAssembly to asm.js: a 64-bit word is two words, the low one first

-- how an export is called: which of its arguments are 64-bit words, and whether its result is one
pub record ShapePlain : Type 0 where
  pub key : List ℕ
  pub wide : List Bool
  pub wide_result : Bool

-- a number modulo 2^64
abbrev pub to_word64 : ℤ → ℕ
to_word64 (pos n) = n % 2 ^ 64
to_word64 (negsuc n) = 2 ^ 64 - 1 - n % 2 ^ 64

-- an argument that is marked as a 64-bit word becomes its two words, each a number below 2^32; another stays as it is
abbrev pub split_arg : Bool → ℤ → List ℤ
split_arg true arg = pos (low_word (to_word64 arg)) ∷ pos (high_word (to_word64 arg)) ∷ []
split_arg false arg = arg ∷ []

-- an argument without a mark stays as it is
abbrev pub split_args : List Bool → List ℤ → List ℤ
split_args [] args = args
split_args (mark ∷ marks) [] = []
split_args (mark ∷ marks) (arg ∷ args) = split_arg mark arg ++ split_args marks args

-- the call of `$init`, with which the session begins
abbrev pub init_call : CallPlain
init_call = record { name = codes "$init"; args = []; line = 0 }

-- the call of `$hi`, which gives the high word of the last 64-bit result, for the call of that line
abbrev pub hi_call : ℕ → CallPlain
hi_call line = record { name = codes "$hi"; args = []; line = line }

abbrev pub split_call_by : Option ShapePlain → CallPlain → List CallPlain
split_call_by None call = record call { name = export_name call.name } ∷ []
split_call_by (Some shape) call =
    record call { name = export_name call.name; args = split_args shape.wide call.args }
    ∷ (if shape.wide_result then hi_call call.line ∷ [] else [])

abbrev pub shape_of_name : List ShapePlain → List ℕ → Option ShapePlain
shape_of_name shapes name = find (λ shape. bytes_eq shape.key name) shapes

-- a call goes over by the shape of its name, and a call with a 64-bit result has a call of `$hi` directly after it
abbrev pub split_call : List ShapePlain → CallPlain → List CallPlain
split_call shapes call = split_call_by (shape_of_name shapes call.name) call

-- globals, heap writes and replies stay as they are
abbrev pub split : List ShapePlain → ScriptPlain → ScriptPlain
split shapes script = record script { calls = init_call ∷ flat_map (split_call shapes) script.calls }

abbrev pub split_word : Word → List Word
split_word (W32 word) = W32 word ∷ []
split_word (W64 word) = W32 (low_word word) ∷ W32 (high_word word) ∷ []

abbrev pub split_event : EventPlain → List EventPlain
split_event (import_called name args) = import_called name (flat_map split_word args) ∷ []
split_event (call_gave word) = map call_gave (split_word word)
split_event call_returned = call_returned ∷ []

abbrev pub split_end : EndPlain → EndPlain
split_end done = done
split_end (stopped name args) = stopped name (flat_map split_word args)
split_end (no_reply name args) = no_reply name (flat_map split_word args)
split_end (trapped kind) = trapped kind

-- `$init` is called first and has no result, so the first `call_returned` is its own
abbrev pub without_init : List EventPlain → List EventPlain
without_init [] = []
without_init (call_returned ∷ events) = events
without_init (import_called name args ∷ events) = import_called name args ∷ without_init events
without_init (call_gave word ∷ events) = call_gave word ∷ without_init events

abbrev pub comparison_to_asm : List ℕ → Comparison
comparison_to_asm first_heap = record {
  source_events = flat_map split_event;
  target_events = without_init;
  source_end = split_end;
  first_heap = first_heap;
}

-- A session of a module of asm.js: the script's calls, and what is seen of it with a budget of units.
use Rattle.std.specs.Prelude.{ℕ, List, [], ◌∷◌, Bool, true, false, Option, Some, None, ℤ, pos, bytes_eq, map, replicate, slice_get, option_and_then, if◌then◌else◌}
use Rattle.sem_words.specs.declared.js_value.JsValue.{JsValue}
use Rattle.sem_words.specs.declared.js_value.JsValue.TheVariants.{Whole}
use Rattle.sem_words.specs.JsOperators.{signed_value}
use Rattle.sem_words.specs.Words.{word_of}
use Rattle.session_lang.specs.Script.{GlobalPlain, CallPlain, ScriptPlain}
use Rattle.session_lang.specs.Imports.{first_replies}
use Rattle.session_lang.specs.Observation.{EventPlain, call_gave, call_returned, done, ObservationPlain, running, ended}
use Rattle.asm_lang.specs.Trees.{Init, number, foreign_int}
use Rattle.asm_lang.specs.Modules.{Variable, Function, Module}
use Rattle.asm_lang_valid.specs.Scope.{signature_of}
use Rattle.asm_lang_valid.specs.Refusal.{has_heap, Exported, exported_from}
use Rattle.asm_lang_exec.specs.Runs.{Binding, binding, Place, Run, goes, stops, spent, wrong, Part, and_then, gives, defined, add_event}
use Rattle.asm_lang_exec.specs.Values.{word, with_writes, Calls}
use Rattle.asm_lang_exec.specs.Meaning.{call_at}

-- ---- the place where a session begins

-- the value that the script gives to a foreign member; a script that fits gives one
abbrev pub given_value : List GlobalPlain → List ℕ → ℤ
given_value [] name = pos 0
given_value (g ∷ gs) name = if bytes_eq g.name name then g.value else given_value gs name

-- the first value of a variable of the module, if the declaration is of one; `foreign.name|0` converts what is given
abbrev pub global_value : ScriptPlain → Init → Option JsValue
global_value script (number z) = Some (Whole z)
global_value script (foreign_int f name) = Some (signed_value (word_of 32 (given_value script.globals name)))
global_value script _ = None

abbrev pub with_binding : List ℕ → Option JsValue → List Binding → List Binding
with_binding n None bs = bs
with_binding n (Some v) bs = binding n v ∷ bs

abbrev pub first_globals : ScriptPlain → List Variable → List Binding
first_globals script [] = []
first_globals script (v ∷ vs) = with_binding v.name (global_value script v.init) (first_globals script vs)

-- a module without a view of integers has no heap
abbrev pub heap_length : Module → ℕ → ℕ
heap_length m length = if has_heap m then length else 0

abbrev pub first_heap : Module → ℕ → ScriptPlain → List ℕ
first_heap m length script = with_writes script.writes (replicate (heap_length m length) 0)

abbrev pub first_place : Module → ℕ → ScriptPlain → ℕ → Place
first_place m length script units =
    record { locals = []; globals = first_globals script m.globals; heap = first_heap m length script; replies = first_replies script; events = []; units = units }

-- ---- calls of the script

abbrev pub export_number : List Exported → List ℕ → Option ℕ
export_number [] key = None
export_number (e ∷ es) key = if bytes_eq e.key key then Some e.function else export_number es key

-- the function that is exported under a key
abbrev pub exported_function : Module → List ℕ → Option Function
exported_function m key = option_and_then (λ i. slice_get m.functions i) (export_number (exported_from m m.exports) key)

abbrev pub result_event : Function → JsValue → EventPlain
result_event f v = if (signature_of f).result then call_gave (word v) else call_returned

abbrev pub host_call : Calls → Module → CallPlain → Part (Unit {0})
host_call calls m c =
    and_then (defined (exported_function m c.name)) (λ f. and_then (calls f (map Whole c.args)) (λ v. add_event (result_event f v)))

-- one after the other
abbrev pub host_calls : Calls → Module → List CallPlain → Part (Unit {0})
host_calls calls m [] = gives tt
host_calls calls m (c ∷ cs) = and_then (host_call calls m c) (λ _. host_calls calls m cs)

-- ---- what is seen

-- None where the session goes wrong
abbrev pub observed : Run (Unit {0}) → Option ObservationPlain
observed (goes _ p) = Some (ended p.events done p.heap)
observed (stops e p) = Some (ended p.events e p.heap)
observed (spent p) = Some (running p.events)
observed wrong = None

-- calls lie at most `bound` deep, and each loop makes at most `bound` turns
abbrev pub observed_within : Bool → ℕ → Module → (heap_length : ℕ) → ScriptPlain → (units : ℕ) → Option ObservationPlain
observed_within checks bound m length script units = observed (host_calls (call_at checks m bound) m script.calls (first_place m length script units))

-- what is seen of the module with this length of the heap, the script and the budget, or None where the session goes wrong.
-- Each call and each turn takes a unit, so that the budget bounds both too
abbrev pub asm : Module → (heap_length : ℕ) → ScriptPlain → (units : ℕ) → Option ObservationPlain
asm m length script units = observed_within false units m length script units

-- the checked meaning: None as well where the value of an expression isn't one of its type
abbrev pub checked_asm : Module → (heap_length : ℕ) → ScriptPlain → (units : ℕ) → Option ObservationPlain
checked_asm m length script units = observed_within true units m length script units

-- A session of a module (section 4.5): instantiation, the start function and the script's calls, and what is seen of it after some
-- reductions. What a session does between a call's end and the next call counts nothing.
use Rattle.std.specs.Prelude.{ℕ, zero, suc, ◌+◌, ◌*◌, Bool, true, false, ◌&&◌, List, [], ◌∷◌, ◌++◌, length, Option, Some, None, ℤ, slice_get, replicate, nat_le, reverse, bytes_eq, if◌then◌else◌, map, take, drop}
use Rattle.sem_words.specs.declared.word.Word.{Word}
use Rattle.sem_words.specs.declared.word.Word.TheVariants.{W32, W64}
use Rattle.sem_words.specs.declared.word.TrapKind.TheVariants as kinds
use Rattle.sem_words.specs.Words.{word_of}
use Rattle.session_lang.specs.Script.{GlobalPlain, CallPlain, ScriptPlain}
use Rattle.session_lang.specs.Imports.{first_replies}
use Rattle.session_lang.specs.Names.{import_name}
use Rattle.session_lang.specs.Observation.{EventPlain, call_gave, call_returned, EndPlain, done, trapped, ObservationPlain, running, ended}
use Rattle.heap_lang.specs.Heap.{is_inside, with_run}
use Rattle.wasm_lang.specs.declared.types.ValType.{ValType}
use Rattle.wasm_lang.specs.declared.types.ValType.TheVariants.{I32, I64}
use Rattle.wasm_lang.specs.declared.types.Limits.{Limits}
use Rattle.wasm_lang.specs.declared.types.ImportKind.{ImportKind}
use Rattle.wasm_lang.specs.declared.types.ImportKind.TheVariants as imports
use Rattle.wasm_lang.specs.declared.types.ExportKind.{ExportKind}
use Rattle.wasm_lang.specs.declared.types.ExportKind.TheVariants as exports
use Rattle.wasm_lang.specs.Instructions.{Instruction, plain, const32, const64, global_get}
use Rattle.wasm_lang.specs.Modules.{Imported, GlobalEntry, Exported, ElementSegment, DataSegment, WasmModule}
use Rattle.wasm_lang_valid.specs.Runnable.{pages}
use Rattle.wasm_lang_exec.specs.Code.{call, ε, ◌▹◌}
use Rattle.wasm_lang_exec.specs.Store.{Store, word_of_type, written, page}
use Rattle.wasm_lang_exec.specs.Reductions.{Callee, type_of, callee_at, Config, Code, Reduct, to, is_values, stops, reduce}

-- ---- the store as a session begins

-- the number of a script stands modulo 2 ^ 32 or 2 ^ 64
abbrev pub word_for : ValType → ℤ → Word
word_for I32 z = W32 (word_of 32 z)
word_for I64 z = W64 (word_of 64 z)

-- the value that the script gives to an import of this name; a script that fits gives one
abbrev pub given_value : List GlobalPlain → List ℕ → ValType → Word
given_value [] name t = word_of_type t 0
given_value (g ∷ gs) name t = if bytes_eq g.name name then word_for t g.value else given_value gs name t

abbrev pub if_global : ImportKind → (ValType → List Word) → List Word → List Word
if_global (imports.Global g) then_it otherwise = then_it g.kind
if_global _ then_it otherwise = otherwise

abbrev pub imported_globals : ScriptPlain → List Imported → List Word
imported_globals s [] = []
imported_globals s (i ∷ is) =
    if_global i.kind (λ t. given_value s.globals (import_name i.module_name i.name) t ∷ imported_globals s is) (imported_globals s is)

-- the value of a first value or an offset: a constant, or an imported global
abbrev pub some_or_zero : Option Word → Word
some_or_zero None = W32 0
some_or_zero (Some v) = v

abbrev pub value_of : List Word → List Instruction → Word
value_of globals (plain (const32 n) ∷ is) = W32 n
value_of globals (plain (const64 n) ∷ is) = W64 n
value_of globals (plain (global_get x) ∷ is) = some_or_zero (slice_get globals x)
value_of globals _ = W32 0

abbrev pub first_globals : WasmModule → ScriptPlain → List Word
first_globals m s = let given = imported_globals s m.imports in given ++ map (λ (g : GlobalEntry). value_of given g.init) m.globals

abbrev pub bytes_in : Option ℕ → ℕ
bytes_in None = 0
bytes_in (Some n) = n * page

-- the script's heap lines are bytes of an imported memory
abbrev pub first_memory : WasmModule → ScriptPlain → List ℕ
first_memory m s = written s.writes (replicate (bytes_in (pages m)) 0)

abbrev pub table_length : List Limits → ℕ
table_length [] = 0
table_length (l ∷ ls) = l.min

abbrev pub first_store : WasmModule → ScriptPlain → Store
first_store m s = record { memory = first_memory m s; globals = first_globals m s; table = replicate (table_length m.tables) None; events = []; replies = first_replies s }

-- ---- instantiation: all segments are tested, and then copied

abbrev pub place_of : Word → ℕ
place_of (W32 n) = n
place_of (W64 n) = n

abbrev pub offset_of : Store → List Instruction → ℕ
offset_of s code = place_of (value_of s.globals code)

abbrev pub entries_fit : Store → List ElementSegment → Bool
entries_fit s [] = true
entries_fit s (e ∷ es) = nat_le (offset_of s e.offset + length e.functions) (length s.table) && entries_fit s es

abbrev pub bytes_fit : Store → List DataSegment → Bool
bytes_fit s [] = true
bytes_fit s (d ∷ ds) = is_inside (offset_of s d.offset) (length d.bytes) s.memory && bytes_fit s ds

-- the list with these from a place on
abbrev pub replaced : {A : Type 0} → ℕ → List A → List A → List A
replaced at new old = take at old ++ (new ++ drop (at + length new) old)

abbrev pub with_entries : List ElementSegment → Store → Store
with_entries [] s = s
with_entries (e ∷ es) s = with_entries es (record s { table = replaced (offset_of s e.offset) (map Some e.functions) s.table })

abbrev pub with_bytes : List DataSegment → Store → Store
with_bytes [] s = s
with_bytes (d ∷ ds) s = with_bytes ds (record s { memory = with_run (offset_of s d.offset) d.bytes s.memory })

-- ---- runs of a configuration

-- what some reductions of a configuration come to: its values, with what is left of them; they are used up; or the session has ended
pub data Run : Type 0 where
  finished : (values : List Word) → Store → (left : ℕ) → Run
  spent : Store → Run
  over : EndPlain → Store → Run

abbrev pub with_none : Reduct → Store → Run
with_none (is_values vs) s = finished vs s 0
with_none _ s = spent s

abbrev pub with_one : (Config → List Word → Store → Run) → ℕ → Reduct → Store → Run
with_one next n (to c locals s') s = next c locals s'
with_one next n (is_values vs) s = finished vs s (suc n)
with_one next n (stops e s') s = over e s'
with_one next n _ s = spent s

module _ (m : WasmModule) where
  abbrev pub run : ℕ → Config → List Word → Store → Run
  run zero c locals s = with_none (reduce m c locals s) s
  run (suc n) c locals s = with_one (run n) n (reduce m c locals s) s

  -- a call of the host, with its arguments
  abbrev pub run_call : ℕ → ℕ → List Word → Store → Run
  run_call n f arguments s = run n (Code (reverse arguments) (call f ▹ ε)) [] s

-- ---- sessions

abbrev pub seen_end : EndPlain → Store → ObservationPlain
seen_end e s = ended s.events e s.memory

abbrev pub seen_running : Store → ObservationPlain
seen_running s = running s.events

abbrev pub result_event : List Word → EventPlain
result_event [] = call_returned
result_event (v ∷ vs) = call_gave v

abbrev pub with_event : EventPlain → Store → Store
with_event e s = record s { events = s.events ++ e ∷ [] }

abbrev pub exported_function : ExportKind → Option ℕ
exported_function (exports.Func f) = Some f
exported_function _ = None

-- the function that is exported under a name
abbrev pub function_named : List Exported → List ℕ → Option ℕ
function_named [] name = None
function_named (e ∷ es) name = if bytes_eq e.name name then exported_function e.kind else function_named es name

abbrev pub words_for : List ValType → List ℤ → List Word
words_for (t ∷ ts) (z ∷ zs) = word_for t z ∷ words_for ts zs
words_for _ zs = []

abbrev pub arguments_for : Option Callee → List ℤ → List Word
arguments_for None zs = []
arguments_for (Some c) zs = words_for (type_of c).params zs

abbrev pub after_call : Run → (ℕ → Store → ObservationPlain) → ObservationPlain
after_call (finished vs s n) next = next n (with_event (result_event vs) s)
after_call (spent s) next = seen_running s
after_call (over e s) next = seen_end e s

abbrev pub one_call : WasmModule → Option ℕ → List ℤ → ℕ → Store → (ℕ → Store → ObservationPlain) → ObservationPlain
one_call m None zs n s next = seen_running s
one_call m (Some f) zs n s next = after_call (run_call m n f (arguments_for (callee_at m f) zs) s) next

-- the script's calls, one after the other
abbrev pub calls_seen : WasmModule → List CallPlain → ℕ → Store → ObservationPlain
calls_seen m [] n s = seen_end done s
calls_seen m (c ∷ cs) n s = one_call m (function_named m.exports c.name) c.args n s (calls_seen m cs)

abbrev pub after_start : Run → (ℕ → Store → ObservationPlain) → ObservationPlain
after_start (finished vs s n) next = next n s
after_start (spent s) next = seen_running s
after_start (over e s) next = seen_end e s

abbrev pub started : WasmModule → Option ℕ → ℕ → Store → (ℕ → Store → ObservationPlain) → ObservationPlain
started m None n s next = next n s
started m (Some f) n s next = after_start (run_call m n f [] s) next

abbrev pub instantiated : Bool → WasmModule → ScriptPlain → ℕ → Store → ObservationPlain
instantiated false m script n s = seen_end (trapped kinds.Segment) s
instantiated true m script n s = started m m.start n (with_bytes m.segments (with_entries m.elements s)) (calls_seen m script.calls)

-- what is seen of the module with the script after so many reductions
abbrev pub wasm : WasmModule → ScriptPlain → ℕ → ObservationPlain
wasm m script zero = seen_running (first_store m script)
wasm m script (suc n) = let s = first_store m script in instantiated (entries_fit s m.elements && bytes_fit s m.segments) m script n s

-- Code of WebAssembly and the statements that it is translated to, each in what surrounds it: how the code may be left, and when what the
-- statements come to follows what is left of the session.
use Rattle.std.specs.Prelude.{◌≡◌, ℕ, suc, ◌+◌, ◌*◌, ◌^◌, ◌<◌, ◌≤◌, Bool, true, List, [], ◌∷◌, length, drop, Option, Some, None, map, slice_get}
use Rattle.sem_words.specs.declared.word.Word.{Word}
use Rattle.sem_words.specs.declared.word.Word.TheVariants.{W32, W64}
use Rattle.sem_words.specs.declared.word.TrapKind.{TrapKind}
use Rattle.sem_words.specs.declared.js_value.JsValue.{JsValue}
use Rattle.sem_words.specs.JsValues.{to_uint32_of}
use Rattle.sem_words.specs.Words.{trap_code}
use Rattle.session_lang.specs.Observation.{EventPlain, EndPlain, trapped, stopped, trap_name, ObservationPlain, as_stop}
use Rattle.session_lang.specs.Simulation.{Comparison}
use Rattle.session_lang.specs.Laws.{KeepsOrder}
use Rattle.wasm_lang.specs.declared.types.ValType.{ValType}
use Rattle.wasm_lang.specs.declared.types.ValType.TheVariants.{I32, I64}
use Rattle.wasm_lang.specs.Modules.{WasmModule}
use Rattle.wasm_lang_valid.specs.Typing.{Context, listed}
use Rattle.wasm_lang_exec.specs.Code.{Trees, ε}
use Rattle.wasm_lang_exec.specs.Store.{Store}
use Rattle.wasm_lang_exec.specs.Reductions.{top_of, arity_of}
use Rattle.wasm_lang_exec.specs.Session.{seen_end, seen_running}
use Rattle.wasm_laws_drive.specs.Drive.{State, Outcome, Branch, Leave, Ended, Spent, at, onward}
use Rattle.wasm_laws_drive.specs.Contexts.{Surrounding, closed}
use Rattle.asm_lang_valid.specs.Typing.{Scope}
use Rattle.asm_lang_exec.specs.Runs.{Place, Run, Part}
use Rattle.asm_lang_exec.specs.Meaning.{Completion, normal, broken, continued, returned}
use Rattle.asm_laws_continuation.specs.Following.{CallsBefore, exec_all_to}
use Rattle.wasm2js_translation.specs.Names.{fixed, result_high}
use Rattle.wasm2js_translation.specs.Words.{stmts_in}
use Rattle.wasm2js_translation.specs.Delays.{Delayed}
use Rattle.wasm2js_translation.specs.Known.{Known}
use Rattle.wasm2js_translation.specs.Bodies.{Aim, past, again, out, label_of, stmts_of}
use Rattle.wasm2js_translation.specs.Rooms.{room_of}
use Rattle.wasm2js_laws_scopes.specs.Provided.{Called, Provides, HasRoom}
use Rattle.wasm2js_laws_places.specs.Following.{Rest, Follows}
use Rattle.wasm2js_laws_places.specs.Straight.{Words}
use Rattle.wasm2js_laws_places.specs.Places.{Setting, word_at, names_in, AreApart, operands, locals_of, store_of, World, Stays}
use Rattle.wasm2js_laws_places.specs.Delaying.{seen, AreWaiting}
use Rattle.wasm2js_laws_places.specs.Knowing.{AreKnown}
use Rattle.wasm2js_laws_typed.specs.Bodies.{IsFormedCode}
use Rattle.wasm2js_laws_typed.specs.Waiting.{AreSoundWaiting}

-- ---- what is fixed while a function runs

pub record Function : Type 0 where
  -- the module of WebAssembly, what is seen of an outcome of it, and how that is compared, at most so many units a reduction
  pub home : WasmModule
  pub watch : Outcome → ObservationPlain
  pub by : Comparison
  pub pace : ℕ
  pub unpaid : ℕ
  -- what the code may refer to, what it calls, and the cells of each table
  pub context : Context
  pub called : Called
  pub cells : ℕ
  -- the function of asm.js, with what its calls do, how many turns and calls there may be, and the names of its variables
  pub scope : Scope
  pub calls : CallsBefore (Unit {0})
  pub bound : ℕ
  pub own : List (List ℕ)
  pub setting : Setting
  -- what events show while it runs
  pub source_shown : List EventPlain → List EventPlain
  pub target_shown : List EventPlain → List EventPlain

-- events match where they show the same
abbrev pub Match : Function → List EventPlain → List EventPlain → Type 0
Match f source target = f.source_shown source ≡ f.target_shown target

pub record IsFair (f : Function) : Type 0 where
  pub keeps : KeepsOrder f.by
  pub match : (source target : List EventPlain) → Match f source target → f.by.source_events source ≡ f.by.target_events target
  pub trap : (kind : TrapKind) → as_stop (f.by.source_end (trapped kind)) ≡ stopped trap_name (W32 (trap_code kind) ∷ [])
  pub past : f.setting.past ≡ drop f.setting.bytes f.by.first_heap
  pub ended : (e : EndPlain) (s : Store) → f.watch (Ended e s) ≡ seen_end e s
  pub spent : (s : Store) → f.watch (Spent s) ≡ seen_running s
  pub some : 1 ≤ f.pace
  pub provides : Provides f.scope f.context f.called f.setting.bytes f.cells

-- code may stand above so many operands, where the block's have these types: the function has variables for it, and its instructions are formed
pub record MayStand (f : Function) (code : Trees) (b : ℕ) (ts : List ValType) : Type 0 where
  pub room : HasRoom f.scope f.context (room_of f.context code b ts)
  pub formed : IsFormedCode f.context.types f.called code

-- a place in the function with at most so many units, which stands for a store with these events
pub record Inside (f : Function) (most : ℕ) (events : List EventPlain) (p : Place) : Type 0 where
  pub world : World f.setting (Match f) events p
  pub names : names_in p.locals ≡ f.own
  pub apart : AreApart p
  pub units : p.units ≤ most

-- these words may wait, and be written in the function
pub record MayWait (f : Function) (ds : List Delayed) : Type 0 where
  pub waiting : AreWaiting ds
  pub sound : AreSoundWaiting f.scope ds

-- the words of a place, where these count as written
abbrev pub seen_at : List Delayed → Place → Words
seen_at ds p = seen ds (word_at p) p.heap

-- ---- what is left of the session

module _ (f : Function) where
  abbrev pub state_at : List Word → Place → List EventPlain → ℕ → State
  state_at values p events n = at values (locals_of f.context.locals (word_at p)) (store_of f.setting p events) n

  -- by the reductions that are left, of what comes of these values at the place
  abbrev pub sight : List Surrounding → (State → Outcome) → List Word → Place → List EventPlain → Rest
  sight around go values p events n = f.watch (closed f.home around (go (state_at values p events n)))

  -- of code, and so many operands lie below those of these types
  abbrev pub code_sight : List Surrounding → Trees → ℕ → List ValType → Place → List EventPlain → Rest
  code_sight around code b ts p events n = sight around (onward f.home code) (operands b ts (word_at p)) p events n

  -- while these words wait
  abbrev pub late_sight : List Surrounding → Trees → ℕ → List ValType → List Delayed → Place → List EventPlain → Rest
  late_sight around code b ts ds p events n = sight around (onward f.home code) (operands b ts (seen_at ds p)) p events n

  abbrev pub IsFollowed : Place → Rest → Run (Unit {0}) → Type 0
  IsFollowed p r run = Follows f.by f.pace f.unpaid p r run

  -- and while this is known of variables
  abbrev pub statements_to : Trees → List Aim → ℕ → List ValType → List Delayed → List Known → (Completion → Part (Unit {0})) → Part (Unit {0})
  statements_to code ls b ts ds ks next = exec_all_to f.calls f.scope f.bound (stmts_in (stmts_of f.setting.bytes f.cells f.context code ls b ts ds ks)) next

-- ---- labels

abbrev pub carried_by : Aim → Option ValType
carried_by (past base r) = r
carried_by (again base) = None
carried_by (out r) = r

-- code under these aims
abbrev pub under_aims : Context → List Aim → Context
under_aims c ls = record c { labels = map carried_by ls }

-- the operands of each label lie below so many, and the function's label is the last one
pub record AreNested (ls : List Aim) (b : ℕ) : Type 0 where
  pub some : 1 ≤ length ls
  pub past_below : (k base : ℕ) (r : Option ValType) → slice_get ls k ≡ Some (past base r) → base ≤ b
  pub past_within : (k base : ℕ) (r : Option ValType) → slice_get ls k ≡ Some (past base r) → suc k < length ls
  pub again_below : (k base : ℕ) → slice_get ls k ≡ Some (again base) → base ≤ b
  pub again_within : (k base : ℕ) → slice_get ls k ≡ Some (again base) → suc k < length ls

-- the topmost values are what a function with this result gives; the high word of the result is in `$h`
abbrev pub Gives : Option ValType → JsValue → Place → List Word → Type 0
Gives None v q values = Unit {0}
Gives (Some I32) v q values = top_of 1 values ≡ Some (W32 (to_uint32_of v) ∷ [])
Gives (Some I64) v q values = top_of 1 values ≡ Some (W64 (to_uint32_of v + 2 ^ 32 * word_at q (fixed result_high)) ∷ [])

-- where the function's own code ends it gives its one operand, a word of 32 bits
pub record EndsWith (f : Function) (most : ℕ) (after : List ValType) (around : List Surrounding) (next : Completion → Part (Unit {0})) : Type 0 where
  pub types : after ≡ I32 ∷ []
  pub gives : (q : Place) (w : List EventPlain) (v : JsValue) → Inside f most w q
      → IsFollowed f q (sight f around (onward f.home ε) (W32 (to_uint32_of v) ∷ []) q w) (next (returned v) q)

-- ---- how code may be left, each with what comes next on both sides: at its end, where that can be reached; to a block's end, with the
-- operands that its result is; to a loop's start; and from the function

pub record Exits (f : Function) (most : ℕ) (ls : List Aim) (b : ℕ) (after : List ValType) (reached : Bool) (around : List Surrounding) (before : Words) (next : Completion → Part (Unit {0})) : Type 0 where
  pub on : reached ≡ true → (q : Place) (w : List EventPlain) → Inside f most w q → Stays b before (word_at q) → IsFollowed f q (code_sight f around ε b after q w) (next normal q)
  pub breaks : (k base : ℕ) (r : Option ValType) → slice_get ls k ≡ Some (past base r) → (q : Place) (w : List EventPlain) (values : List Word) → Inside f most w q
      → Stays base before (word_at q) → top_of (arity_of r) values ≡ Some (operands base (listed r) (word_at q))
      → IsFollowed f q (sight f around (Branch k) values q w) (next (broken (Some (label_of ls k))) q)
  pub turns : (k base : ℕ) → slice_get ls k ≡ Some (again base) → (q : Place) (w : List EventPlain) (values : List Word) → Inside f most w q → Stays base before (word_at q)
      → IsFollowed f q (sight f around (Branch k) values q w) (next (continued (Some (label_of ls k))) q)
  pub outs : (k : ℕ) (r : Option ValType) → slice_get ls k ≡ Some (out r) → (q : Place) (w : List EventPlain) (v : JsValue) (values : List Word) → Inside f most w q → Gives r v q values
      → IsFollowed f q (sight f around (Branch k) values q w) (next (returned v) q)
  pub leaves : (q : Place) (w : List EventPlain) (v : JsValue) (values : List Word) → Inside f most w q → Gives f.context.returns v q values
      → IsFollowed f q (sight f around Leave values q w) (next (returned v) q)
  pub ends : ls ≡ out (Some I32) ∷ [] → EndsWith f most after around next

-- from each place in the function what the statements come to follows the code, while these words wait and this is known of those that
-- variables hold
abbrev pub IsKeptWhile : List Delayed → List Known → (f : Function) (most : ℕ) → Trees → List Aim → (b : ℕ) → List ValType → List Surrounding → (before : Words) → (Completion → Part (Unit {0})) → Type 0
IsKeptWhile ds ks f most code ls b ts around before next =
    (p : Place) (w : List EventPlain) → Inside f most w p → AreKnown ks (word_at p) → Stays b before (seen_at ds p)
    → IsFollowed f p (late_sight f around code b ts ds p w) (statements_to f code ls b ts ds ks next p)

-- while none wait and nothing is known, and whatever waits and is known

abbrev pub IsKept : (f : Function) (most : ℕ) → Trees → List Aim → (b : ℕ) → List ValType → List Surrounding → (before : Words) → (Completion → Part (Unit {0})) → Type 0
IsKept f most code ls b ts around before next =
    (p : Place) (w : List EventPlain) → Inside f most w p → Stays b before (word_at p) → IsFollowed f p (code_sight f around code b ts p w) (statements_to f code ls b ts [] [] next p)

abbrev pub IsKeptLate : (f : Function) (most : ℕ) → Trees → List Aim → (b : ℕ) → List ValType → List Surrounding → (before : Words) → (Completion → Part (Unit {0})) → Type 0
IsKeptLate f most code ls b ts around before next = (ds : List Delayed) (ks : List Known) → MayWait f ds → IsKeptWhile ds ks f most code ls b ts around before next

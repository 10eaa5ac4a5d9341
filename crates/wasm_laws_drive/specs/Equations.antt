-- The words in which `drive` is said of each construct: what an instruction, a label, a frame and a call make of a state.
use Rattle.std.specs.Prelude.{ℕ, zero, suc, List, [], ◌∷◌, ◌++◌, length, Option, Some, None, Bool, true, false, reverse, slice_get, if◌then◌else◌}
use Rattle.sem_words.specs.declared.word.Word.{Word}
use Rattle.sem_words.specs.declared.word.Word.TheVariants.{W32}
use Rattle.sem_words.specs.declared.word.TrapKind.TheVariants as kinds
use Rattle.session_lang.specs.Observation.{trapped}
use Rattle.session_lang.specs.Imports.{Given, ImportAnswer, goes_on, ends, answer_import}
use Rattle.wasm_lang.specs.declared.types.ValType.{ValType}
use Rattle.wasm_lang.specs.Instructions.{Plain, const32, const64}
use Rattle.wasm_lang.specs.Modules.{WasmModule}
use Rattle.wasm_lang_exec.specs.Code.{Trees, ◌⊕◌}
use Rattle.wasm_lang_exec.specs.Store.{Store, zeros_of, written}
use Rattle.wasm_lang_exec.specs.Plain.{Effect, goes, traps, sticks}
use Rattle.wasm_lang_exec.specs.Reductions.{Callee, an_import, a_function, callee_at, params_of, top_of, below_top, result_word, of_type}
use Rattle.wasm_laws_drive.specs.Drive.{State, Outcome, Next, Branch, Leave, Ended, Stuck, Spent, onward}

-- ---- states and outcomes

-- one reduction
abbrev pub pay_from : ℕ → State → (State → Outcome) → Outcome
pay_from zero t go = Spent t.store
pay_from (suc n) t go = go (record t { left = n })

abbrev pub pay : State → (State → Outcome) → Outcome
pay t go = pay_from t.left t go

-- what follows values
abbrev pub then_on : Outcome → (State → Outcome) → Outcome
then_on (Next t) go = go t
then_on (Branch k t) go = Branch k t
then_on (Leave t) go = Leave t
then_on (Ended e s) go = Ended e s
then_on (Stuck s) go = Stuck s
then_on (Spent s) go = Spent s

-- the topmost value, where it is a number of 32 bits
abbrev pub take_number : List Word → State → (ℕ → State → Outcome) → Outcome
take_number (W32 n ∷ values) t go = go n (record t { values = values })
take_number _ t go = Stuck t.store

-- so many values, where there are so many
abbrev pub take_values : Option (List Word) → State → (List Word → Outcome) → Outcome
take_values None t go = Stuck t.store
take_values (Some values) t go = go values

-- the values over these
abbrev pub over : List Word → List Word → State → State
over below top t = record t { values = top ++ below }

-- ---- plain instructions

abbrev pub is_constant : Plain → Bool
is_constant (const32 n) = true
is_constant (const64 n) = true
is_constant _ = false

abbrev pub after : Effect → State → (State → Outcome) → Outcome
after (goes values locals s) t go = go (record { values = values; locals = locals; store = s; left = t.left })
after (traps kind) t go = Ended (trapped kind) t.store
after sticks t go = Stuck t.store

-- ---- control

-- an import's byte writes, then its events, and the replies that it leaves
abbrev pub answered : Given → Store → Store
answered g s = record { memory = written g.writes s.memory; globals = s.globals; table = s.table; events = s.events ++ g.events; replies = g.replies }

module _ (m : WasmModule) where
  -- what a label with values below it and code after it makes of what comes of its inside
  abbrev pub at_label : List Word → ℕ → Trees → Trees → Outcome → Outcome
  at_label values n continuation code (Next t) = pay t (λ t. onward m code (over values t.values t))
  at_label values n continuation code (Branch zero t) = take_values (top_of n t.values) t (λ top. onward m (continuation ⊕ code) (over values top t))
  at_label values n continuation code (Branch (suc k) t) = Branch k t
  at_label values n continuation code (Leave t) = Leave t
  at_label values n continuation code (Ended e s) = Ended e s
  at_label values n continuation code (Stuck s) = Stuck s
  at_label values n continuation code (Spent s) = Spent s

  -- back in the caller's code, with the caller's locals
  abbrev pub back : List Word → Trees → List Word → List Word → State → Outcome
  back values code locals top t = onward m code (record (over values top t) { locals = locals })

  -- .. a frame ..
  abbrev pub at_frame : List Word → ℕ → Trees → List Word → Outcome → Outcome
  at_frame values n code locals (Next t) = pay t (λ t. back values code locals t.values t)
  at_frame values n code locals (Branch zero t) = take_values (top_of n t.values) t (λ top. back values code locals top t)
  at_frame values n code locals (Branch (suc k) t) = Stuck t.store
  at_frame values n code locals (Leave t) = take_values (top_of n t.values) t (λ top. back values code locals top t)
  at_frame values n code locals (Ended e s) = Ended e s
  at_frame values n code locals (Stuck s) = Stuck s
  at_frame values n code locals (Spent s) = Spent s

  abbrev pub after_import : ImportAnswer → List ValType → Trees → State → Outcome
  after_import (ends e) results code t = Ended e t.store
  after_import (goes_on g) results code t = onward m code (record t { values = result_word results g.word ++ t.values; store = answered g t.store })

  -- a call with its arguments, the last first; the values are those below them
  abbrev pub entered : Option Callee → Option (List Word) → Trees → State → Outcome
  entered (Some (an_import name f)) (Some arguments) code t = after_import (answer_import name (reverse arguments) t.store.replies) f.results code t
  entered (Some (a_function f more body)) (Some arguments) code t =
      at_frame t.values (length f.results) code t.locals (onward m body (record t { values = []; locals = reverse arguments ++ zeros_of more }))
  entered _ arguments code t = Stuck t.store

  abbrev pub called : Option Callee → Trees → State → Outcome
  called c code t = entered c (top_of (params_of c) t.values) code (record t { values = below_top (params_of c) t.values })

  -- a call by an entry of the table, which may be outside, empty or of another type
  abbrev pub called_by : ℕ → Option (Option ℕ) → Trees → State → Outcome
  called_by type (Some (Some f)) code t =
      if of_type (slice_get m.types type) (callee_at m f) then called (callee_at m f) code t else Ended (trapped kinds.OtherType) t.store
  called_by type _ code t = Ended (trapped kinds.TableEntry) t.store

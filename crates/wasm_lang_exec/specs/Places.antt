-- Where a session stands after some reductions. The parts follow those of what is seen of it (`Session` of the meaning), and keep the
-- configuration that is to be reduced next.
use Rattle.std.specs.Prelude.{ℕ, zero, suc, Bool, true, false, ◌&&◌, List, [], ◌∷◌, Option, Some, None, ℤ, reverse}
use Rattle.sem_words.specs.declared.word.Word.{Word}
use Rattle.sem_words.specs.declared.word.TrapKind.TheVariants as kinds
use Rattle.session_lang.specs.Script.{CallPlain, ScriptPlain}
use Rattle.session_lang.specs.Observation.{EndPlain, done, trapped, ObservationPlain}
use Rattle.wasm_lang.specs.Modules.{WasmModule}
use Rattle.wasm_lang_exec.specs.Code.{call, ε, ◌▹◌}
use Rattle.wasm_lang_exec.specs.Store.{Store}
use Rattle.wasm_lang_exec.specs.Reductions.{callee_at, Config, Code, Reduct, to, is_values, branches, returns, stops, is_stuck, reduce}
use Rattle.wasm_lang_exec.specs.Session.{seen_running, seen_end, result_event, with_event, function_named, arguments_for, with_entries, with_bytes, entries_fit, bytes_fit, first_store}

pub data Place : Type 0 where
  -- the instantiation is next
  begins : Store → Place
  -- the configuration of a host's call is to be reduced
  reduces : Config → (locals : List Word) → Store → Place
  -- a call of the script names no function
  names_none : Store → Place
  has_ended : EndPlain → Store → Place

-- what is seen of a session that stands there
abbrev pub seen : Place → ObservationPlain
seen (begins s) = seen_running s
seen (reduces c locals s) = seen_running s
seen (names_none s) = seen_running s
seen (has_ended e s) = seen_end e s

-- ---- a host's call

-- what follows it: by its values, the reductions that are left and the store
abbrev pub Follows : Type 0
Follows = List Word → ℕ → Store → Place

abbrev pub place_now : Reduct → Config → List Word → Store → Follows → Place
place_now (is_values values) c locals s next = next values 0 s
place_now _ c locals s next = reduces c locals s

abbrev pub place_after : (Config → List Word → Store → Place) → ℕ → Reduct → Config → List Word → Store → Follows → Place
place_after go n (to c' locals' s') c locals s next = go c' locals' s'
place_after go n (is_values values) c locals s next = next values (suc n) s
place_after go n (stops e s') c locals s next = has_ended e s'
place_after go n _ c locals s next = reduces c locals s

module _ (m : WasmModule) where
  abbrev pub place_in_call : Follows → ℕ → Config → List Word → Store → Place
  place_in_call next zero c locals s = place_now (reduce m c locals s) c locals s next
  place_in_call next (suc n) c locals s = place_after (place_in_call next n) n (reduce m c locals s) c locals s next

  abbrev pub place_of_call : ℕ → ℕ → List Word → Store → Follows → Place
  place_of_call n f arguments s next = place_in_call next n (Code (reverse arguments) (call f ▹ ε)) [] s

  -- ---- sessions

  abbrev pub place_of_one : Option ℕ → List ℤ → ℕ → Store → (ℕ → Store → Place) → Place
  place_of_one None zs n s next = names_none s
  place_of_one (Some f) zs n s next = place_of_call n f (arguments_for (callee_at m f) zs) s (λ values n s. next n (with_event (result_event values) s))

  abbrev pub place_in_calls : List CallPlain → ℕ → Store → Place
  place_in_calls [] n s = has_ended done s
  place_in_calls (c ∷ cs) n s = place_of_one (function_named m.exports c.name) c.args n s (place_in_calls cs)

  abbrev pub place_of_start : Option ℕ → ℕ → Store → (ℕ → Store → Place) → Place
  place_of_start None n s next = next n s
  place_of_start (Some f) n s next = place_of_call n f [] s (λ values n s. next n s)

  abbrev pub place_of_instance : Bool → ScriptPlain → ℕ → Store → Place
  place_of_instance false script n s = has_ended (trapped kinds.Segment) s
  place_of_instance true script n s = place_of_start m.start n (with_bytes m.segments (with_entries m.elements s)) (place_in_calls script.calls)

  abbrev pub place : ScriptPlain → ℕ → Place
  place script zero = begins (first_store m script)
  place script (suc n) = let s = first_store m script in place_of_instance (entries_fit s m.elements && bytes_fit s m.segments) script n s

-- ---- a place from which the session goes on

-- there is a reduction
abbrev pub IsReduction : Reduct → Type 0
IsReduction (to c locals s) = Unit {0}
IsReduction (stops e s) = Unit {0}
IsReduction (is_values values) = ⊥
IsReduction (branches k values) = ⊥
IsReduction (returns values) = ⊥
IsReduction is_stuck = ⊥

-- the session has ended or has a next reduction
abbrev pub GoesOn : WasmModule → Place → Type 0
GoesOn m (begins s) = Unit {0}
GoesOn m (reduces c locals s) = IsReduction (reduce m c locals s)
GoesOn m (names_none s) = ⊥
GoesOn m (has_ended e s) = Unit {0}

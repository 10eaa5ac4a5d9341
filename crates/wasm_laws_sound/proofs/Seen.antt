-- What is seen of a session is what is seen of the place where it stands.
use Rattle.std.proofs.Common.{◌≡◌, ℕ, zero, suc, List, [], ◌∷◌, Option, None, Some, Bool, true, false, ◌&&◌, ℤ, refl, ◌∙◌}
use Rattle.std.specs.Prelude.{reverse}
use Rattle.sem_words.specs.declared.word.Word.{Word}
use Rattle.session_lang.specs.Script.{CallPlain, ScriptPlain}
use Rattle.session_lang.specs.Observation.{ObservationPlain}
use Rattle.wasm_lang.specs.Modules.{WasmModule}
use Rattle.wasm_lang_exec.specs.Code.{call, ε, ◌▹◌}
use Rattle.wasm_lang_exec.specs.Store.{Store}
use Rattle.wasm_lang_exec.specs.Reductions.{callee_at, Config, Code, Reduct, to, is_values, branches, returns, stops, is_stuck, reduce}
use Rattle.wasm_lang_exec.specs.Session.{Run, finished, spent, over, with_none, with_one, run, run_call, seen_running, seen_end, result_event, with_event, function_named, arguments_for, after_call, one_call, calls_seen, after_start, started, instantiated, with_entries, with_bytes, entries_fit, bytes_fit, first_store}
use Rattle.wasm_lang_exec.specs.Places.{Place, seen, Follows, place_now, place_after, place_in_call, place_of_one, place_in_calls, place_of_start, place_of_instance}
use Rattle.wasm_laws_sound.specs.Laws.{PlacesAreSeen}

-- what is seen after a run, by what is seen where it came back
abbrev after_run : Run → (List Word → ℕ → Store → ObservationPlain) → ObservationPlain
after_run (finished values s n) next = next values n s
after_run (spent s) next = seen_running s
after_run (over e s) next = seen_end e s

call_is_run : (r : Run) (next : ℕ → Store → ObservationPlain) → after_call r next ≡ after_run r (λ values n s. next n (with_event (result_event values) s))
call_is_run (finished values s n) next = refl
call_is_run (spent s) next = refl
call_is_run (over e s) next = refl

start_is_run : (r : Run) (next : ℕ → Store → ObservationPlain) → after_start r next ≡ after_run r (λ values n s. next n s)
start_is_run (finished values s n) next = refl
start_is_run (spent s) next = refl
start_is_run (over e s) next = refl

same_after : (r : Run) (next other : List Word → ℕ → Store → ObservationPlain) → ((values : List Word) (n : ℕ) (s : Store) → next values n s ≡ other values n s) → after_run r next ≡ after_run r other
same_after (finished values s n) next other same = same values n s
same_after (spent s) next other same = refl
same_after (over e s) next other same = refl

module _ (m : WasmModule) where
  module _ (next : Follows) where
    abbrev what_follows : List Word → ℕ → Store → ObservationPlain
    what_follows values n s = seen (next values n s)

    seen_now : (r : Reduct) (c : Config) (locals : List Word) (s : Store) → after_run (with_none r s) what_follows ≡ seen (place_now r c locals s next)
    seen_now (to c' locals' s') c locals s = refl
    seen_now (is_values values) c locals s = refl
    seen_now (branches k values) c locals s = refl
    seen_now (returns values) c locals s = refl
    seen_now (stops e s') c locals s = refl
    seen_now is_stuck c locals s = refl

    abbrev IsSeen : ℕ → Type 0
    IsSeen n = (c : Config) (locals : List Word) (s : Store) → after_run (run m n c locals s) what_follows ≡ seen (place_in_call m next n c locals s)

    seen_after : (n : ℕ) (r : Reduct) (c : Config) (locals : List Word) (s : Store)
        → IsSeen n → after_run (with_one (run m n) n r s) what_follows ≡ seen (place_after (place_in_call m next n) n r c locals s next)
    seen_after n (to c' locals' s') c locals s before = before c' locals' s'
    seen_after n (is_values values) c locals s before = refl
    seen_after n (branches k values) c locals s before = refl
    seen_after n (returns values) c locals s before = refl
    seen_after n (stops e s') c locals s before = refl
    seen_after n is_stuck c locals s before = refl

    is_seen : (n : ℕ) → IsSeen n
    is_seen zero c locals s = seen_now (reduce m c locals s) c locals s
    is_seen (suc n) c locals s = seen_after n (reduce m c locals s) c locals s (is_seen n)

  abbrev AreSeen : (ℕ → Store → ObservationPlain) → (ℕ → Store → Place) → Type 0
  AreSeen next places = (n : ℕ) (s : Store) → next n s ≡ seen (places n s)

  one_seen : (o : Option ℕ) (zs : List ℤ) (n : ℕ) (s : Store) (next : ℕ → Store → ObservationPlain) (places : ℕ → Store → Place)
      → AreSeen next places → one_call m o zs n s next ≡ seen (place_of_one m o zs n s places)
  one_seen None zs n s next places same = refl
  one_seen (Some f) zs n s next places same =
      let arguments = arguments_for (callee_at m f) zs in
      let r = run_call m n f arguments s in
      call_is_run r next
      ∙ same_after r (λ values n s. next n (with_event (result_event values) s)) (λ values n s. seen (places n (with_event (result_event values) s))) (λ values n s. same n (with_event (result_event values) s))
      ∙ is_seen (λ values n s. places n (with_event (result_event values) s)) n (Code (reverse arguments) (call f ▹ ε)) [] s

  calls_are_seen : (cs : List CallPlain) → AreSeen (calls_seen m cs) (place_in_calls m cs)
  calls_are_seen [] n s = refl
  calls_are_seen (c ∷ cs) n s = one_seen (function_named m.exports c.name) c.args n s (calls_seen m cs) (place_in_calls m cs) (calls_are_seen cs)

  start_seen : (o : Option ℕ) (n : ℕ) (s : Store) (next : ℕ → Store → ObservationPlain) (places : ℕ → Store → Place)
      → AreSeen next places → started m o n s next ≡ seen (place_of_start m o n s places)
  start_seen None n s next places same = same n s
  start_seen (Some f) n s next places same =
      let r = run_call m n f [] s in
      start_is_run r next
      ∙ same_after r (λ values n s. next n s) (λ values n s. seen (places n s)) (λ values n s. same n s)
      ∙ is_seen (λ values n s. places n s) n (Code (reverse []) (call f ▹ ε)) [] s

  instance_seen : (fits : Bool) (script : ScriptPlain) (n : ℕ) (s : Store) → instantiated fits m script n s ≡ seen (place_of_instance m fits script n s)
  instance_seen false script n s = refl
  instance_seen true script n s =
      start_seen m.start n (with_bytes m.segments (with_entries m.elements s)) (calls_seen m script.calls) (place_in_calls m script.calls) (calls_are_seen script.calls)

pub places_are_seen : PlacesAreSeen
places_are_seen m script zero = refl
places_are_seen m script (suc n) = let s = first_store m script in instance_seen m (entries_fit s m.elements && bytes_fit s m.segments) script n s

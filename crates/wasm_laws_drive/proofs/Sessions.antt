-- More reductions only add to what is seen of a session.
use Rattle.std.proofs.Common.{◌≡◌, ℕ, zero, suc, ◌+◌, ◌-◌, List, [], ◌∷◌, Option, Some, None, Bool, true, false, refl, sym, ap, ◌∙◌, subst, arith}
use Rattle.std.proofs.lemmas.Option.{none-some}
use Rattle.std.specs.Prelude.{ℤ, reverse, ◌&&◌}
use Rattle.sem_words.specs.declared.word.Word.{Word}
use Rattle.session_lang.specs.Script.{CallPlain, ScriptPlain}
use Rattle.session_lang.specs.Observation.{EventPlain, EndPlain, ObservationPlain, IsPrefix, IsBelow}
use Rattle.session_lang.proofs.BelowLaws.{below_is_reflexive, prefix_trans}
use Rattle.wasm_lang.specs.Modules.{WasmModule}
use Rattle.wasm_lang_exec.specs.Code.{call, ε, ◌▹◌}
use Rattle.wasm_lang_exec.specs.Store.{Store}
use Rattle.wasm_lang_exec.specs.Reductions.{callee_at, Code}
use Rattle.wasm_lang_exec.specs.Session.{Run, finished, spent, over, run, run_call, result_event, with_event, function_named, arguments_for, after_call, one_call, calls_seen, after_start, started, instantiated, entries_fit, bytes_fit, with_bytes, with_entries, first_store, wasm}
use Rattle.wasm_laws_drive.specs.Drive.{Outcome, Next, Branch, Leave, Ended, Stuck, Spent, drive}
use Rattle.wasm_laws_drive.specs.Laws.{events_of, Adds, run_of, SessionsAreMonotone, SessionsGrow, EndedSessionsStay}
use Rattle.wasm_laws_drive.proofs.Events.{same_events}
use Rattle.wasm_laws_drive.proofs.Counting.{events_stay, more_only_add, run_is_driven}

-- ---- runs

abbrev run_events : Run → List EventPlain
run_events (finished values s n) = s.events
run_events (spent s) = s.events
run_events (over e s) = s.events

abbrev RunAdds : ℕ → Run → Run → Type 0
RunAdds k (finished values s n) later = later ≡ finished values s (n + k)
RunAdds k (spent s) later = IsPrefix s.events (run_events later)
RunAdds k (over e s) later = later ≡ over e s

run_of_adds : (k : ℕ) (r later : Outcome) → Adds k r later → RunAdds k (run_of r) (run_of later)
run_of_adds k (Next t) later adds = ap run_of adds
run_of_adds k (Branch l t) later adds = subst (λ r. IsPrefix t.store.events (run_events (run_of r))) (sym adds) (same_events t.store)
run_of_adds k (Leave t) later adds = subst (λ r. IsPrefix t.store.events (run_events (run_of r))) (sym adds) (same_events t.store)
run_of_adds k (Ended e s) later adds = ap run_of adds
run_of_adds k (Stuck s) later adds = subst (λ r. IsPrefix s.events (run_events (run_of r))) (sym adds) (same_events s)
run_of_adds k (Spent s) later adds = go later adds
  where
    go : (later : Outcome) → IsPrefix s.events (events_of later) → IsPrefix s.events (run_events (run_of later))
    go (Next t) h = h
    go (Branch l t) h = h
    go (Leave t) h = h
    go (Ended e s') h = h
    go (Stuck s') h = h
    go (Spent s') h = h

run_of_events : (r : Outcome) → run_events (run_of r) ≡ events_of r
run_of_events (Next t) = refl
run_of_events (Branch l t) = refl
run_of_events (Leave t) = refl
run_of_events (Ended e s) = refl
run_of_events (Stuck s) = refl
run_of_events (Spent s) = refl

module _ (m : WasmModule) where
  call_adds : (n k f : ℕ) (arguments : List Word) (s : Store) → RunAdds k (run_call m n f arguments s) (run_call m (n + k) f arguments s)
  call_adds n k f arguments s =
      let c = Code (reverse arguments) (call f ▹ ε) in
      subst (λ r. RunAdds k r (run m (n + k) c [] s)) (sym (run_is_driven m n c [] s))
      (subst (λ r. RunAdds k (run_of (drive m n c [] s)) r) (sym (run_is_driven m (n + k) c [] s))
      (run_of_adds k (drive m n c [] s) (drive m (n + k) c [] s) (more_only_add m n k c [] s)))

  call_stays : (n f : ℕ) (arguments : List Word) (s : Store) → IsPrefix s.events (run_events (run_call m n f arguments s))
  call_stays n f arguments s =
      let c = Code (reverse arguments) (call f ▹ ε) in
      subst (λ r. IsPrefix s.events (run_events r)) (sym (run_is_driven m n c [] s))
      (subst (λ events. IsPrefix s.events events) (sym (run_of_events (drive m n c [] s))) (events_stay m n c [] s))

-- ---- what follows a call

abbrev Following : Type 0
Following = ℕ → Store → ObservationPlain

-- what follows keeps the events that were there
abbrev KeepsOn : Following → Type 0
KeepsOn next = (n : ℕ) (s : Store) → IsPrefix s.events (next n s).events

-- with more reductions, what follows only adds
abbrev GrowsOn : Following → Type 0
GrowsOn next = (n k : ℕ) (s : Store) → IsBelow (next n s) (next (n + k) s)

call_keeps : (r : Run) (next : Following) → KeepsOn next → IsPrefix (run_events r) (after_call r next).events
call_keeps (finished values s n) next keeps =
    prefix_trans s.events (with_event (result_event values) s).events (next n (with_event (result_event values) s)).events
    (result_event values ∷ [], refl) (keeps n (with_event (result_event values) s))
call_keeps (spent s) next keeps = same_events s
call_keeps (over e s) next keeps = same_events s

call_grows : (k : ℕ) (r later : Run) (next : Following) → KeepsOn next → GrowsOn next → RunAdds k r later → IsBelow (after_call r next) (after_call later next)
call_grows k (finished values s n) later next keeps grows adds =
    subst (λ r. IsBelow (after_call (finished values s n) next) (after_call r next)) (sym adds) (grows n k (with_event (result_event values) s))
call_grows k (spent s) later next keeps grows adds = prefix_trans s.events (run_events later) (after_call later next).events adds (call_keeps later next keeps)
call_grows k (over e s) later next keeps grows adds =
    subst (λ r. IsBelow (after_call (over e s) next) (after_call r next)) (sym adds) (below_is_reflexive (after_call (over e s) next))

start_keeps : (r : Run) (next : Following) → KeepsOn next → IsPrefix (run_events r) (after_start r next).events
start_keeps (finished values s n) next keeps = keeps n s
start_keeps (spent s) next keeps = same_events s
start_keeps (over e s) next keeps = same_events s

start_grows : (k : ℕ) (r later : Run) (next : Following) → KeepsOn next → GrowsOn next → RunAdds k r later → IsBelow (after_start r next) (after_start later next)
start_grows k (finished values s n) later next keeps grows adds =
    subst (λ r. IsBelow (after_start (finished values s n) next) (after_start r next)) (sym adds) (grows n k s)
start_grows k (spent s) later next keeps grows adds = prefix_trans s.events (run_events later) (after_start later next).events adds (start_keeps later next keeps)
start_grows k (over e s) later next keeps grows adds =
    subst (λ r. IsBelow (after_start (over e s) next) (after_start r next)) (sym adds) (below_is_reflexive (after_start (over e s) next))

-- ---- sessions

module _ (m : WasmModule) where
  one_keeps : (f : Option ℕ) (zs : List ℤ) (next : Following) → KeepsOn next → KeepsOn (λ n s. one_call m f zs n s next)
  one_keeps None zs next keeps n s = same_events s
  one_keeps (Some f) zs next keeps n s =
      let r = run_call m n f (arguments_for (callee_at m f) zs) s in
      prefix_trans s.events (run_events r) (after_call r next).events (call_stays m n f (arguments_for (callee_at m f) zs) s) (call_keeps r next keeps)

  one_grows : (f : Option ℕ) (zs : List ℤ) (next : Following) → KeepsOn next → GrowsOn next → GrowsOn (λ n s. one_call m f zs n s next)
  one_grows None zs next keeps grows n k s = same_events s
  one_grows (Some f) zs next keeps grows n k s =
      let arguments = arguments_for (callee_at m f) zs in
      call_grows k (run_call m n f arguments s) (run_call m (n + k) f arguments s) next keeps grows (call_adds m n k f arguments s)

  calls_keep : (cs : List CallPlain) → KeepsOn (calls_seen m cs)
  calls_keep [] n s = same_events s
  calls_keep (c ∷ cs) n s = one_keeps (function_named m.exports c.name) c.args (calls_seen m cs) (calls_keep cs) n s

  calls_grow : (cs : List CallPlain) → GrowsOn (calls_seen m cs)
  calls_grow [] n k s = below_is_reflexive (calls_seen m [] n s)
  calls_grow (c ∷ cs) n k s = one_grows (function_named m.exports c.name) c.args (calls_seen m cs) (calls_keep cs) (calls_grow cs) n k s

  start_grow : (f : Option ℕ) (next : Following) → KeepsOn next → GrowsOn next → GrowsOn (λ n s. started m f n s next)
  start_grow None next keeps grows n k s = grows n k s
  start_grow (Some f) next keeps grows n k s =
      start_grows k (run_call m n f [] s) (run_call m (n + k) f [] s) next keeps grows (call_adds m n k f [] s)

  begun_grows : (fits : Bool) (script : ScriptPlain) → GrowsOn (instantiated fits m script)
  begun_grows false script n k s = below_is_reflexive (instantiated false m script n s)
  begun_grows true script n k s =
      start_grow m.start (calls_seen m script.calls) (calls_keep script.calls) (calls_grow script.calls) n k (with_bytes m.segments (with_entries m.elements s))

pub sessions_grow : SessionsGrow
sessions_grow m script zero many le = ((wasm m script many).events, refl)
sessions_grow m script (suc few) zero le = absurd (omega arith)
sessions_grow m script (suc few) (suc many) le =
    let s = first_store m script in
    let e : few + (many - few) ≡ many = omega arith in
    subst (λ n. IsBelow (wasm m script (suc few)) (wasm m script (suc n))) e
    (begun_grows m (entries_fit s m.elements && bytes_fit s m.segments) script few (many - few) s)

pub sessions_are_monotone : SessionsAreMonotone
sessions_are_monotone m script n = sessions_grow m script n (suc n) (omega arith)

-- ---- a session that has ended

-- with more reductions, what follows stays once it has ended
abbrev StaysOn : Following → Type 0
StaysOn next = (n k : ℕ) (s : Store) (e : EndPlain) → (next n s).end ≡ Some e → next (n + k) s ≡ next n s

call_ended : (k : ℕ) (r later : Run) (next : Following) (e : EndPlain) → StaysOn next → RunAdds k r later → (after_call r next).end ≡ Some e → after_call later next ≡ after_call r next
call_ended k (finished values s n) later next e stays adds ends = ap (λ r. after_call r next) adds ∙ stays n k (with_event (result_event values) s) e ends
call_ended k (spent s) later next e stays adds ends = absurd (none-some e ends)
call_ended k (over e' s) later next e stays adds ends = ap (λ r. after_call r next) adds

start_ended : (k : ℕ) (r later : Run) (next : Following) (e : EndPlain) → StaysOn next → RunAdds k r later → (after_start r next).end ≡ Some e → after_start later next ≡ after_start r next
start_ended k (finished values s n) later next e stays adds ends = ap (λ r. after_start r next) adds ∙ stays n k s e ends
start_ended k (spent s) later next e stays adds ends = absurd (none-some e ends)
start_ended k (over e' s) later next e stays adds ends = ap (λ r. after_start r next) adds

module _ (m : WasmModule) where
  one_stays : (f : Option ℕ) (zs : List ℤ) (next : Following) → StaysOn next → StaysOn (λ n s. one_call m f zs n s next)
  one_stays None zs next stays n k s e ends = absurd (none-some e ends)
  one_stays (Some f) zs next stays n k s e ends =
      let arguments = arguments_for (callee_at m f) zs in
      call_ended k (run_call m n f arguments s) (run_call m (n + k) f arguments s) next e stays (call_adds m n k f arguments s) ends

  calls_stay : (cs : List CallPlain) → StaysOn (calls_seen m cs)
  calls_stay [] n k s e ends = refl
  calls_stay (c ∷ cs) n k s e ends = one_stays (function_named m.exports c.name) c.args (calls_seen m cs) (calls_stay cs) n k s e ends

  start_stays : (f : Option ℕ) (next : Following) → StaysOn next → StaysOn (λ n s. started m f n s next)
  start_stays None next stays n k s e ends = stays n k s e ends
  start_stays (Some f) next stays n k s e ends = start_ended k (run_call m n f [] s) (run_call m (n + k) f [] s) next e stays (call_adds m n k f [] s) ends

  begun_stays : (fits : Bool) (script : ScriptPlain) → StaysOn (instantiated fits m script)
  begun_stays false script n k s e ends = refl
  begun_stays true script n k s e ends =
      start_stays m.start (calls_seen m script.calls) (calls_stay script.calls) n k (with_bytes m.segments (with_entries m.elements s)) e ends

pub ended_sessions_stay : EndedSessionsStay
ended_sessions_stay m script zero k e ends = absurd (none-some e ends)
ended_sessions_stay m script (suc n) k e ends =
    let s = first_store m script in
    let more : suc (n + k) ≡ suc n + k = omega arith in
    subst (λ many. wasm m script many ≡ wasm m script (suc n)) more
    (begun_stays m (entries_fit s m.elements && bytes_fit s m.segments) script n k s e ends)

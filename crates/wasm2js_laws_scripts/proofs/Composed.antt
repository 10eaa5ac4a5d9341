-- One simulation after the other, over the WebAssembly between them.
use Rattle.std.proofs.Common.{◌≡◌, ℕ, ◌⊎◌, inl, inr, Bool, true, false, List, [], ◌∷◌, ◌++◌, map, replicate, Option, Some, None, refl, sym, ap, ◌∙◌, subst}
use Rattle.std.specs.Prelude.{if◌then◌else◌, ◌||◌, codes}
use Rattle.std.proofs.Math.Path.{fun_ext}
use Rattle.session_lang.specs.Script.{ScriptPlain}
use Rattle.session_lang.specs.Observation.{ObservationPlain, running}
use Rattle.session_lang.specs.Simulation.{Session, Sim}
use Rattle.session_lang.specs.CallingForms.{script_to_wasm}
use Rattle.session_lang.specs.Laws.{IsNarrowSession, comparison_there_and_back}
use Rattle.session_lang.proofs.Forms.{round_trip_simulates}
use Rattle.wasm_lang.specs.declared.types.Limits.{Limits}
use Rattle.wasm_lang.specs.declared.types.ImportKind.{ImportKind}
use Rattle.wasm_lang.specs.declared.types.ImportKind.TheVariants as imports
use Rattle.wasm_lang.specs.Modules.{Imported, WasmModule}
use Rattle.wasm_lang_valid.specs.ModuleRules.{is_memory, imports_memory, has_memory}
use Rattle.wasm_lang_valid.specs.Runnable.{memory_min, or_else, imported_pages, own_pages, pages}
use Rattle.wasm_lang_exec.specs.Session.{wasm, first_memory}
use Rattle.asm_lang.specs.Modules.{Module}
use Rattle.asm_lang_valid.specs.Refusal.{has_heap}
use Rattle.asm_lang_exec.specs.Session.{heap_length, first_heap, first_place, host_calls, observed, asm}
use Rattle.asm_lang_exec.specs.Values.{with_writes}
use Rattle.asm_lang_exec.specs.Meaning.{call_at}
use Rattle.asm_laws_sound.proofs.Narrow.{sessions_are_narrow}
use Rattle.asm2wasm_lang.specs.Heaps.{pages_for}
use Rattle.asm2wasm_lang.specs.Calling as there_called
use Rattle.asm2wasm_lang.specs.Calling.{Import, imported_as, memory_of, of_kind, memories_asked, from_env, exactly}
use Rattle.asm2wasm_lang.specs.Allowed as there
use Rattle.asm2wasm_lang.specs.Allowed.{or_nothing}
use Rattle.wasm2js_lang.specs.Heaps.{heap_bytes}
use Rattle.wasm2js_lang.specs.Calling.{IsCalledAs}
use Rattle.wasm2js_lang.specs.Allowed as back
use Rattle.wasm2js_laws_scripts.proofs.Heaps.{heaps_begin}
use Rattle.wasm2js_laws_scripts.proofs.Fitting.{heap_is_for}
use Rattle.wasm2js_lang.specs.RoundTrips.{script_back, size_back, RoundTripsSimulate}

-- ---- the memory between: that of the heap, or none

-- the limits of what is imported
limits_of : List (Import Limits) → List Limits
limits_of xs = map (λ (x : Import Limits). x.is) xs

first_min : List Limits → Option ℕ
first_min [] = None
first_min (l ∷ ls) = Some l.min

pages_are_first : (is : List Imported) → imported_pages is ≡ first_min (limits_of (of_kind memory_of is))
unfolding limits_of first_min
pages_are_first [] = refl
pages_are_first (i ∷ is) = by (pages_are_first is) i.kind
  where
    by : imported_pages is ≡ first_min (limits_of (of_kind memory_of is)) → (k : ImportKind)
        → or_else (memory_min k) (imported_pages is) ≡ first_min (limits_of (map (imported_as i) (memory_of k) ++ of_kind memory_of is))
    by rest (imports.Func t) = rest
    by rest (imports.Table l) = rest
    by rest (imports.Memory l) = refl
    by rest (imports.Global g) = rest

module _ (a : Module) (size : ℕ) (w : WasmModule) (called : there_called.IsCalledAs a size w) where
  asked_pages : (b : Bool) → first_min (limits_of (if b then from_env (codes "memory") (exactly (pages_for size)) ∷ [] else [])) ≡ (if b then Some (pages_for size) else None)
  unfolding limits_of first_min
  asked_pages true = refl
  asked_pages false = refl

  no_own : (o : Option ℕ) → or_else o (own_pages w.memories) ≡ o
  no_own None = ap own_pages called.no_memory
  no_own (Some n) = refl

  pages_are : pages w ≡ (if has_heap a then Some (pages_for size) else None)
  pages_are = no_own (imported_pages w.imports) ∙ pages_are_first w.imports ∙ ap (λ xs. first_min (limits_of xs)) called.memories ∙ asked_pages (has_heap a)

  -- without a heap there is no memory
  none_imported : (is : List Imported) → of_kind memory_of is ≡ [] → imports_memory is ≡ false
  none_imported [] h = refl
  none_imported (i ∷ is) h = by (none_imported is) i.kind h
    where
      by : (of_kind memory_of is ≡ [] → imports_memory is ≡ false) → (k : ImportKind) → map (imported_as i) (memory_of k) ++ of_kind memory_of is ≡ [] → (is_memory k || imports_memory is) ≡ false
      by more (imports.Func t) h = more h
      by more (imports.Table l) h = more h
      by more (imports.Memory l) h = cc h
      by more (imports.Global g) h = more h

  no_memory : has_heap a ≡ false → has_memory w ≡ false
  no_memory h =
      let asked : memories_asked a size ≡ [] = ap (λ b. if b then from_env (codes "memory") (exactly (pages_for size)) ∷ [] else []) h in
      let e = none_imported w.imports (called.memories ∙ asked) in
      let d = called.no_memory in
      rw (e, d) refl

  module _ (b : Module) (back_called : IsCalledAs w b) where
    same_length : heap_length b (heap_bytes w) ≡ heap_length b (size_back size)
    same_length = by (has_heap a) refl
      where
        by : (h : Bool) → has_heap a ≡ h → heap_length b (heap_bytes w) ≡ heap_length b (size_back size)
        by true is = ap (heap_length b) (heap_is_for w (pages_for size) (pages_are ∙ ap (λ h. if h then Some (pages_for size) else None) is))
        by false is =
            let none : has_heap b ≡ false = back_called.heap ∙ no_memory is in
            ap (λ h. if h then heap_bytes w else 0) none ∙ sym (ap (λ h. if h then size_back size else 0) none)

-- ---- a session depends on the heap's length alone

module _ (b : Module) (x y : ℕ) (same : heap_length b x ≡ heap_length b y) (s : ScriptPlain) where
  same_heap : first_heap b x s ≡ first_heap b y s
  same_heap = ap (λ k. with_writes s.writes (replicate k 0)) same

  same_sight : (n : ℕ) → asm b x s n ≡ asm b y s n
  same_sight n = ap (λ h. observed (host_calls (call_at false b n) b s.calls (record (first_place b x s n) { heap = h }))) same_heap

  same_session : ◌≡◌ {A = Session} (λ n. or_nothing (asm b x s n)) (λ n. or_nothing (asm b y s n))
  same_session = fun_ext (λ n. ap or_nothing (same_sight n))

-- ---- what is seen of the source

shown : (o : Option ObservationPlain) → (o ≡ Some (or_nothing o)) ⊎ (or_nothing o ≡ running [])
shown None = inr refl
shown (Some seen) = inl refl

source_is_narrow : (a : Module) (size : ℕ) (s : ScriptPlain) → IsNarrowSession (there.source_session a size s)
source_is_narrow a size s = sessions_are_narrow a size s (there.source_session a size s) (λ n. shown (asm a size s n))

pub round_trips_simulate : RoundTripsSimulate
round_trips_simulate a size w b one two s fits =
    let over = script_to_wasm s in
    let fit = one.fits s fits in
    let first = one.simulates s fits in
    let second = two.simulates over fit in
    let begins = heaps_begin w b over two.called fit in
    let whole = round_trip_simulates (first_memory w over) (first_heap b (heap_bytes w) (script_back w s)) begins (there.source_session a size s) (λ n. wasm w over n) (back.target_session w b over) (source_is_narrow a size s) first second in
    let same = same_length a size w one.called b two.called in
    let heap = same_heap b (heap_bytes w) (size_back size) same (script_back w s) in
    let session = same_session b (heap_bytes w) (size_back size) same (script_back w s) in
    subst (λ t. Sim (comparison_there_and_back (first_heap b (size_back size) (script_back w s))) (there.source_session a size s) t) session
    (subst (λ h. Sim (comparison_there_and_back h) (there.source_session a size s) (back.target_session w b over)) heap whole)

-- The two calling forms keep the order of what is seen, and one after the other simulates.
use Rattle.std.specs.List.{AllByRecursion, flat_map}
use Rattle.std.proofs.Common.{◌≡◌, ℕ, List, [], ◌∷◌, ◌++◌, map, Option, Some, None, option_map, refl, sym, ap, ◌∙◌, subst}
use Rattle.std.proofs.lemmas.List.{map-append}
use Rattle.std.proofs.lemmas.List.Concat.{flat_map-append}
use Rattle.sem_words.specs.declared.word.Word.{Word}
use Rattle.sem_words.specs.declared.word.Word.TheVariants.{W32, W64}
use Rattle.session_lang.specs.Observation.{EventPlain, import_called, call_gave, call_returned, EndPlain, done, stopped, no_reply, trapped, ObservationPlain, as_stop, IsPrefix}
use Rattle.session_lang.specs.Simulation.{IsSameAs, SourceIsBelow, TargetIsBelow, Sim}
use Rattle.session_lang.specs.CallingForms.{foreign_import, event_to_wasm, end_to_wasm, comparison_to_wasm, split_word, split_event, split_end, without_init, comparison_to_asm}
use Rattle.session_lang.specs.Laws.{KeepsPrefixes, KeepsOrder, CallingFormsKeepOrder, composed, IsNarrow, HasNarrowWords, EndsNarrow, comparison_there_and_back, RoundTripSimulates}
use Rattle.session_lang.proofs.Sides.{source_from, source_ended, source_prefix, target_from, target_ended, target_prefix}
use Rattle.session_lang.proofs.Composing.{simulations_compose}

map_keeps_prefixes : (f : EventPlain → EventPlain) → KeepsPrefixes (map f)
map_keeps_prefixes f front whole p = (map f p.0, ap (map f) p.1 ∙ map-append f front p.0)

flat_map_keeps_prefixes : (f : EventPlain → List EventPlain) → KeepsPrefixes (flat_map f)
flat_map_keeps_prefixes f front whole p = (flat_map f p.0, ap (flat_map f) p.1 ∙ flat_map-append f front p.0)

after_init : (front more : List EventPlain) → IsPrefix (without_init front) (without_init (front ++ more))
after_init [] more = (without_init more, refl)
after_init (call_returned ∷ front) more = (more, refl)
after_init (import_called name args ∷ front) more = let p = after_init front more in (p.0, ap (λ l. import_called name args ∷ l) p.1)
after_init (call_gave word ∷ front) more = let p = after_init front more in (p.0, ap (λ l. call_gave word ∷ l) p.1)

without_init_keeps_prefixes : KeepsPrefixes without_init
without_init_keeps_prefixes front whole p = subst (λ l. IsPrefix (without_init front) (without_init l)) (sym p.1) (after_init front p.0)

trap_to_wasm : (end : EndPlain) → as_stop (end_to_wasm (as_stop end)) ≡ as_stop (end_to_wasm end)
trap_to_wasm done = refl
trap_to_wasm (stopped name args) = refl
trap_to_wasm (no_reply name args) = refl
trap_to_wasm (trapped kind) = refl

trap_to_asm : (end : EndPlain) → as_stop (split_end (as_stop end)) ≡ as_stop (split_end end)
trap_to_asm done = refl
trap_to_asm (stopped name args) = refl
trap_to_asm (no_reply name args) = refl
trap_to_asm (trapped kind) = refl

to_wasm_keeps : (first_heap : List ℕ) → KeepsOrder (comparison_to_wasm first_heap)
to_wasm_keeps first_heap = record { source = map_keeps_prefixes event_to_wasm; target = λ front whole p. p; trap = trap_to_wasm }

to_asm_keeps : (first_heap : List ℕ) → KeepsOrder (comparison_to_asm first_heap)
to_asm_keeps first_heap = record { source = flat_map_keeps_prefixes split_event; target = without_init_keeps_prefixes; trap = trap_to_asm }

pub calling_forms_keep_order : CallingFormsKeepOrder
calling_forms_keep_order first_heap = (to_wasm_keeps first_heap, to_asm_keeps first_heap)

-- ---- words of 32 bits alone aren't split

narrow_words : (args : List Word) → AllByRecursion IsNarrow args → flat_map split_word args ≡ args
narrow_words [] h = refl
narrow_words (W32 word ∷ args) h = ap (λ l. W32 word ∷ l) (narrow_words args h.1)
narrow_words (W64 word ∷ args) h = absurd h.0

narrow_event : (e : EventPlain) → HasNarrowWords e → split_event (event_to_wasm e) ≡ event_to_wasm e ∷ []
narrow_event (import_called name args) h = ap (λ l. import_called (foreign_import name) l ∷ []) (narrow_words args h)
narrow_event (call_gave (W32 word)) h = refl
narrow_event (call_gave (W64 word)) h = absurd h
narrow_event call_returned h = refl

narrow_events : (events : List EventPlain) → AllByRecursion HasNarrowWords events → flat_map split_event (map event_to_wasm events) ≡ map event_to_wasm events
narrow_events [] h = refl
narrow_events (e ∷ events) h = ap (λ l. l ++ flat_map split_event (map event_to_wasm events)) (narrow_event e h.0) ∙ ap (λ l. event_to_wasm e ∷ l) (narrow_events events h.1)

narrow_end : (e : Option EndPlain) → EndsNarrow e → option_map (λ e. as_stop (split_end (end_to_wasm e))) e ≡ option_map (λ e. as_stop (end_to_wasm e)) e
narrow_end None h = refl
narrow_end (Some done) h = refl
narrow_end (Some (stopped name args)) h = ap (λ l. Some (stopped (foreign_import name) l)) (narrow_words args h)
narrow_end (Some (no_reply name args)) h = ap (λ l. Some (no_reply (foreign_import name) l)) (narrow_words args h)
narrow_end (Some (trapped kind)) h = refl

module _ (first_middle first_target : List ℕ) (x y : ObservationPlain) (events : AllByRecursion HasNarrowWords x.events) (end : EndsNarrow x.end) where
  same_there_and_back : IsSameAs (composed (comparison_to_wasm first_middle) (comparison_to_asm first_target)) x y → IsSameAs (comparison_there_and_back first_target) x y
  same_there_and_back s = record {
    events = sym (narrow_events x.events events) ∙ s.events;
    end = sym (narrow_end x.end end) ∙ s.end;
    heap = s.heap;
  }

  source_there_and_back : SourceIsBelow (composed (comparison_to_wasm first_middle) (comparison_to_asm first_target)) x y → SourceIsBelow (comparison_there_and_back first_target) x y
  source_there_and_back h =
      source_from (comparison_there_and_back first_target) x y
      (λ is. subst (λ l. IsPrefix l (without_init y.events)) (narrow_events x.events events) (source_prefix (composed (comparison_to_wasm first_middle) (comparison_to_asm first_target)) x y h))
      (λ e is. same_there_and_back (source_ended (composed (comparison_to_wasm first_middle) (comparison_to_asm first_target)) x y e h is))

  target_there_and_back : TargetIsBelow (composed (comparison_to_wasm first_middle) (comparison_to_asm first_target)) y x → TargetIsBelow (comparison_there_and_back first_target) y x
  target_there_and_back h =
      target_from (comparison_there_and_back first_target) y x
      (λ is. subst (λ l. IsPrefix (without_init y.events) l) (narrow_events x.events events) (target_prefix (composed (comparison_to_wasm first_middle) (comparison_to_asm first_target)) y x h))
      (λ e is. same_there_and_back (target_ended (composed (comparison_to_wasm first_middle) (comparison_to_asm first_target)) y x e h is))

pub round_trip_simulates : RoundTripSimulates
round_trip_simulates first_middle first_target begins source middle target narrow there back =
    let both : Sim (composed (comparison_to_wasm first_middle) (comparison_to_asm first_target)) source target =
    simulations_compose (comparison_to_wasm first_middle) (comparison_to_asm first_target) (λ events. refl) (to_asm_keeps first_target) begins source middle target there back in
    record {
      nothing_lost = λ n. let k = both.nothing_lost n in (k.0, source_there_and_back first_middle first_target (source n) (target k.0) (narrow.events n) (narrow.end n) k.1);
      nothing_new = λ k. let n = both.nothing_new k in (n.0, target_there_and_back first_middle first_target (source n.0) (target k) (narrow.events n.0) (narrow.end n.0) n.1);
    }

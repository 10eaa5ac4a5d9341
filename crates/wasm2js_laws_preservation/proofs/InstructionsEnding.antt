-- Places that count alike, words of a place, and the end by a trap.
use Rattle.std.proofs.Common.{◌≡◌, ℕ, ◌^◌, ◌<◌, ◌≤◌, List, [], ◌∷◌, length, take, drop, Option, Some, None, sym, ap, ◌∙◌, subst, arith}
use Rattle.std.proofs.lemmas.List.{length-take}
use Rattle.sem_words.specs.declared.word.Word.TheVariants.{W32}
use Rattle.sem_words.specs.declared.word.TrapKind.{TrapKind}
use Rattle.sem_words.specs.declared.js_value.JsValue.{JsValue}
use Rattle.sem_words.specs.Words.{trap_code}
use Rattle.asm_types.proofs.Sound.{to_uint32_lt}
use Rattle.session_lang.specs.Observation.{EventPlain, EndPlain, trapped, stopped, trap_name, ended, as_stop}
use Rattle.session_lang.specs.Simulation.{HeapsAgree, IsSameAs}
use Rattle.wasm_lang_exec.specs.Session.{seen_end}
use Rattle.asm_lang_exec.specs.Runs.{Place, Run, goes, stops, spent, wrong, value_in}
use Rattle.wasm2js_translation.specs.Names.{Name, spelled}
use Rattle.wasm2js_laws_places.specs.Following.{Rest, Lower}
use Rattle.wasm2js_laws_places.specs.Places.{is_own, variables, word_bound, word_at, store_of}
use Rattle.wasm2js_laws_places.specs.Helped.{IsTrap}
use Rattle.wasm2js_laws_preservation.specs.ControlControl.{Function, IsFair, Inside, IsFollowed}

-- ---- a place counts by its units and its events

pub counts_alike : (f : Function) (p q : Place) (r : Rest) (run : Run (Unit {0})) → q.units ≡ p.units → q.events ≡ p.events → IsFollowed f q r run → IsFollowed f p r run
counts_alike f p q r (goes t x) e g h = h
counts_alike f p q r (stops i x) e g h = h
counts_alike f p q r (spent x) e g h = record {
  high = h.high;
  no_more = h.no_more;
  lower = subst (λ n. Lower f.by f.pace f.unpaid n r p.events x.events) e (subst (λ es. Lower f.by f.pace f.unpaid q.units r es x.events) g h.lower);
}
counts_alike f p q r wrong e g h = tt

-- ---- words

pub are_words : (p : Place) (n : Name) → word_at p n < 2 ^ 32
are_words p n = by (value_in (variables (is_own n) p) (spelled n))
  where
    by : (o : Option JsValue) → word_bound o < 2 ^ 32
    by None = omega arith
    by (Some v) = to_uint32_lt v

-- ---- traps

taken : (bytes : ℕ) (heap : List ℕ) → bytes ≤ length heap → length (take bytes heap) ≡ bytes
taken bytes heap h = let e = length-take bytes heap in omega (arith, e, h)

module _ (f : Function) (fair : IsFair f) (most : ℕ) (w : List EventPlain) (p : Place) (i : Inside f most w p) where
  memory_agrees : HeapsAgree f.by.first_heap (take f.setting.bytes p.heap) p.heap
  memory_agrees =
      let e = taken f.setting.bytes p.heap i.world.is_heap.holds in
      record {
        same = ap (λ n. take n p.heap) e;
        kept = ap (λ n. drop n p.heap) e ∙ i.world.past ∙ fair.past ∙ sym (ap (λ n. drop n f.by.first_heap) e);
      }

  pub trap_same : (kind : TrapKind) (k : ℕ) (e : EndPlain) (q : Place) → k ≡ trap_code kind → IsTrap k p.heap p e q
      → IsSameAs f.by (seen_end (trapped kind) (store_of f.setting p w)) (ended q.events e q.heap)
  trap_same kind k e q is h =
      let a : e ≡ stopped trap_name (W32 (trap_code kind) ∷ []) = h.end ∙ ap (λ k. stopped trap_name (W32 k ∷ [])) is in
      record {
        events = fair.match w p.events i.world.match ∙ ap f.by.target_events (sym h.events);
        end = ap Some (fair.trap kind ∙ ap as_stop (sym a));
        heap = subst (λ x. HeapsAgree f.by.first_heap (take f.setting.bytes p.heap) x) (sym h.has_heap) memory_agrees;
      }

-- Parts that change words and the heap, one after the other.
use Rattle.std.proofs.Common.{◌≡◌, ℕ, ◌+◌, ◌^◌, ◌≤◌, Bool, true, false, List, Option, Some, None, refl, sym, ap, ◌∙◌, subst, arith}
use Rattle.std.proofs.Math.Path.{fun_ext}
use Rattle.std.specs.Prelude.{if◌then◌else◌, ℤ}
use Rattle.sem_words.specs.declared.js_value.JsValue.{JsValue}
use Rattle.sem_words.specs.JsValues.{to_uint32_of}
use Rattle.heap_lang.specs.declared.kind.ViewKind.{ViewKind}
use Rattle.heap_lang.specs.Heap.{store}
use Rattle.heap_lang.proofs.HeapLemmas.{length-store, IsBytes-store}
use Rattle.asm_lang_valid.specs.Scope.{is_in}
use Rattle.asm_lang_exec.specs.Runs as runs
use Rattle.asm_lang_exec.specs.Runs.{Place, Run, spent, wrong, Part, after, value_in, written, write}
use Rattle.asm_lang_exec.specs.Meaning.{Completion, normal, unless_left}
use Rattle.wasm2js_translation.specs.Names.{Name, spelled}
use Rattle.wasm2js_laws_places.specs.Straight.{Words, with_word, Outcome, goes, stops, then_do, units_after}
use Rattle.wasm2js_laws_places.specs.Places.{is_own, variables, word_bound, word_at, names_in, AreApart, IsHeap}
use Rattle.wasm2js_laws_places.specs.Helped.{IsOn, IsShort, Does}
use Rattle.wasm2js_laws_actions.proofs.Variables.{not_there, names_stay, own_set, outer_set}

-- ---- what is kept

pub apart_kept : (p q : Place) → names_in q.locals ≡ names_in p.locals → names_in q.globals ≡ names_in p.globals → AreApart p → AreApart q
apart_kept p q l g apart n = by (is_own n) (apart n)
  where
    by : (b : Bool) → is_in (spelled n) (names_in (if b then p.globals else p.locals)) ≡ false → is_in (spelled n) (names_in (if b then q.globals else q.locals)) ≡ false
    by true h = ap (is_in (spelled n)) g ∙ h
    by false h = ap (is_in (spelled n)) l ∙ h

pub heap_stored : (bytes : ℕ) (kind : ViewKind) (i : ℤ) (word : ℕ) (heap : List ℕ) → IsHeap bytes heap → IsHeap bytes (store kind i word heap)
heap_stored bytes kind i word heap h =
    let e = length-store kind i word heap in
    record { are_bytes = IsBytes-store kind i word heap h.are_bytes; holds = let k = h.holds in omega (arith, e, k); small = subst (λ n. n ≤ 2 ^ 28) (sym e) h.small }

-- ---- one after the other

pub on_further : (bytes : ℕ) (w v : Words) (heap heap' : List ℕ) (u t : ℕ) (p q q' : Place) → IsOn bytes w heap u p q → IsOn bytes v heap' t q q' → IsOn bytes v heap' (u + t) p q'
on_further bytes w v heap heap' u t p q q' h k = record {
  has_words = k.has_words;
  has_heap = k.has_heap;
  is_heap = k.is_heap;
  left = let a = h.left in let b = k.left in omega (arith, a, b);
  locals = k.locals ∙ h.locals;
  globals = k.globals ∙ h.globals;
  events = k.events ∙ h.events;
  replies = k.replies ∙ h.replies;
}

pub done_further : (bytes : ℕ) (w : Words) (heap : List ℕ) (o : Outcome) (u t : ℕ) (p q : Place) (r : Run Completion) → IsOn bytes w heap u p q → Does bytes o t q r → Does bytes o (u + t) p r
done_further bytes w heap (goes v heap') u t p q (runs.goes d q') h k = (k.0, on_further bytes w v heap heap' u t p q q' h k.1)
done_further bytes w heap (goes v heap') u t p q (runs.stops e q') h k = absurd k
done_further bytes w heap (goes v heap') u t p q (spent q') h k = record { few = let a = h.left in let b = k.few in omega (arith, a, b); events = k.events ∙ h.events }
done_further bytes w heap (goes v heap') u t p q wrong h k = tt
done_further bytes w heap (stops kind heap') u t p q (runs.goes d q') h k = absurd k
done_further bytes w heap (stops kind heap') u t p q (runs.stops e q') h k = record { end = k.end; has_heap = k.has_heap; events = k.events ∙ h.events }
done_further bytes w heap (stops kind heap') u t p q (spent q') h k = record { few = let a = h.left in let b = k.few in omega (arith, a, b); events = k.events ∙ h.events }
done_further bytes w heap (stops kind heap') u t p q wrong h k = tt

pub short_does : (bytes : ℕ) (o : Outcome) (u : ℕ) (p q : Place) → IsShort u p q → Does bytes o u p (spent q)
short_does bytes (goes w heap) u p q h = h
short_does bytes (stops kind heap) u p q h = h

pub wrong_does : (bytes : ℕ) (o : Outcome) (u : ℕ) (p : Place) → Does bytes o u p wrong
wrong_does bytes (goes w heap) u p = tt
wrong_does bytes (stops kind heap) u p = tt

shorter : (u t : ℕ) (p q : Place) → IsShort u p q → IsShort (u + t) p q
shorter u t p q h = record { few = let a = h.few in omega (arith, a); events = h.events }

-- what comes next begins with these words and this heap
moved : (bytes u : ℕ) (w : Words) (heap : List ℕ) (k : Words → List ℕ → Outcome) (uk : Words → List ℕ → ℕ) (p q : Place) (r : Run Completion) → IsOn bytes w heap u p q
    → Does bytes (k (word_at q) q.heap) (uk (word_at q) q.heap) q r → Does bytes (k w heap) (uk w heap) q r
moved bytes u w heap k uk p q r on h =
    let words : word_at q ≡ w = fun_ext on.has_words in
    subst (λ (v : Words). Does bytes (k v heap) (uk v heap) q r) words (subst (λ x. Does bytes (k (word_at q) x) (uk (word_at q) x) q r) on.has_heap h)

module _ (bytes bound : ℕ) (k : Words → List ℕ → Outcome) (uk : Words → List ℕ → ℕ) (rest : Part Completion) where
  abbrev Continues : Type 0
  Continues = (q : Place) → AreApart q → IsHeap bytes q.heap → q.units ≤ bound → Does bytes (k (word_at q) q.heap) (uk (word_at q) q.heap) q (rest q)

  goes_then : (u : ℕ) (w : Words) (heap : List ℕ) (p q : Place) → AreApart p → p.units ≤ bound → IsOn bytes w heap u p q → Continues → Does bytes (k w heap) (u + uk w heap) p (rest q)
  goes_then u w heap p q apart le on f =
      let is_heap : IsHeap bytes q.heap = subst (IsHeap bytes) (sym on.has_heap) on.is_heap in
      let a = on.left in
      done_further bytes w heap (k w heap) u (uk w heap) p q (rest q) on
      (moved bytes u w heap k uk p q (rest q) on (f q (apart_kept p q on.locals on.globals apart) is_heap (omega (arith, a, le))))

  pub then_does : (u : ℕ) (o : Outcome) (p : Place) (r : Run Completion) → AreApart p → p.units ≤ bound → Does bytes o u p r → Continues
      → Does bytes (then_do o k) (u + units_after o uk) p (after r (λ d. unless_left d rest))
  then_does u (goes w heap) p (runs.goes d q) apart le h f =
      subst (λ d. Does bytes (k w heap) (u + uk w heap) p (unless_left d rest q)) (sym h.0) (goes_then u w heap p q apart le h.1 f)
  then_does u (goes w heap) p (runs.stops e q) apart le h f = absurd h
  then_does u (goes w heap) p (spent q) apart le h f = short_does bytes (k w heap) (u + uk w heap) p q (shorter u (uk w heap) p q h)
  then_does u (goes w heap) p wrong apart le h f = wrong_does bytes (k w heap) (u + uk w heap) p
  then_does u (stops kind heap) p (runs.goes d q) apart le h f = absurd h
  then_does u (stops kind heap) p (runs.stops e q) apart le h f = record { end = h.end; has_heap = h.has_heap; events = h.events }
  then_does u (stops kind heap) p (spent q) apart le h f = shorter u 0 p q h
  then_does u (stops kind heap) p wrong apart le h f = tt

-- ---- writes of variables and of the heap

-- a part with a value that takes no units
abbrev pub Leaves : (bytes : ℕ) → Words → List ℕ → Place → Run JsValue → Type 0
Leaves bytes w heap p (runs.goes v q) = IsOn bytes w heap 0 p q
Leaves bytes w heap p (runs.stops e q) = ⊥
Leaves bytes w heap p (spent q) = ⊥
Leaves bytes w heap p wrong = Unit {0}

pub leaves_done : (bytes : ℕ) (w : Words) (heap : List ℕ) (p : Place) (r : Run JsValue) → Leaves bytes w heap p r → Does bytes (goes w heap) 0 p (after r (λ v. runs.gives normal))
leaves_done bytes w heap p (runs.goes v q) h = (refl, h)
leaves_done bytes w heap p (runs.stops e q) h = absurd h
leaves_done bytes w heap p (spent q) h = absurd h
leaves_done bytes w heap p wrong h = tt

none_is_some : (old : JsValue) (o : Option JsValue) → o ≡ None → o ≡ Some old → ⊥
none_is_some old o e f = cc (e, f)

pub write_leaves : (bytes : ℕ) (n : Name) (v : JsValue) (p : Place) → AreApart p → IsHeap bytes p.heap → Leaves bytes (with_word n (to_uint32_of v) (word_at p)) p.heap p (write (spelled n) v p)
write_leaves bytes n v p apart heap = by (is_own n) refl (apart n) (value_in p.locals (spelled n)) (value_in p.globals (spelled n)) refl refl
  where
    by : (b : Bool) → is_own n ≡ b → is_in (spelled n) (names_in (if b then p.globals else p.locals)) ≡ false → (x y : Option JsValue) → value_in p.locals (spelled n) ≡ x
        → value_in p.globals (spelled n) ≡ y → Leaves bytes (with_word n (to_uint32_of v) (word_at p)) p.heap p (written x y (spelled n) v p)
    by true own out (Some old) y e f = record {
      has_words = λ m. own_set n m v old p own e;
      has_heap = refl;
      is_heap = heap;
      left = omega arith;
      locals = names_stay (spelled n) v p.locals;
      globals = refl;
      events = refl;
      replies = refl;
    }
    by true own out None (Some old) e f = absurd (none_is_some old (value_in p.globals (spelled n)) (not_there p.globals (spelled n) out) f)
    by true own out None None e f = tt
    by false own out (Some old) y e f = absurd (none_is_some old (value_in p.locals (spelled n)) (not_there p.locals (spelled n) out) e)
    by false own out None (Some old) e f = record {
      has_words = λ m. outer_set n m v old p own f;
      has_heap = refl;
      is_heap = heap;
      left = omega arith;
      locals = refl;
      globals = names_stay (spelled n) v p.globals;
      events = refl;
      replies = refl;
    }
    by false own out None None e f = tt

heap_apart : (heap : List ℕ) (p : Place) (m : Name) → word_at (record p { heap = heap }) m ≡ word_at p m
heap_apart heap p m = by (is_own m)
  where
    by : (b : Bool) → word_bound (value_in (variables b (record p { heap = heap })) (spelled m)) ≡ word_bound (value_in (variables b p) (spelled m))
    by true = refl
    by false = refl

pub store_is_on : (bytes : ℕ) (kind : ViewKind) (i : ℤ) (word : ℕ) (p : Place) → IsHeap bytes p.heap → IsOn bytes (word_at p) (store kind i word p.heap) 0 p (record p { heap = store kind i word p.heap })
store_is_on bytes kind i word p h = record {
  has_words = heap_apart (store kind i word p.heap) p;
  has_heap = refl;
  is_heap = heap_stored bytes kind i word p.heap h;
  left = omega arith;
  locals = refl;
  globals = refl;
  events = refl;
  replies = refl;
}

pub still_on : (bytes : ℕ) (p : Place) → IsHeap bytes p.heap → IsOn bytes (word_at p) p.heap 0 p p
still_on bytes p h = record { has_words = λ m. refl; has_heap = refl; is_heap = h; left = omega arith; locals = refl; globals = refl; events = refl; replies = refl }

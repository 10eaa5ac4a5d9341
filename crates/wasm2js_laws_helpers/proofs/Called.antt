-- A call of a function that gives a word and perhaps sets `$q`.
use Rattle.std.proofs.Common.{◌≡◌, ℕ, zero, suc, ◌+◌, ◌≤◌, Bool, true, false, List, Option, Some, None, refl, ap, ◌∙◌, arith}
use Rattle.sem_words.specs.declared.js_value.JsValue.{JsValue}
use Rattle.sem_words.specs.JsValues.{to_uint32_of}
use Rattle.asm_lang.specs.Modules.{Function, Module}
use Rattle.asm_lang_valid.specs.Typed.{scope_of}
use Rattle.asm_lang_exec.specs.Runs.{Binding, Place, Run, goes, stops, spent, wrong, after, and_then, defined, paid, value_in, with_value, with_locals, back_to}
use Rattle.asm_lang_exec.specs.Meaning.{Completion, normal, broken, continued, returned, exec_all, first_locals, function_end, call_at}
use Rattle.wasm2js_translation.specs.Names.{Name, fixed, spare_high, spelled}
use Rattle.wasm2js_translation.specs.Words.{name_of}
use Rattle.wasm2js_laws_places.specs.Straight.{gives, with_word, with_high}
use Rattle.wasm2js_laws_places.specs.Places.{is_own, variables, word_bound, word_at, names_in, IsHeap}
use Rattle.wasm2js_laws_places.specs.Helped.{IsShort, Helps}
use Rattle.wasm2js_laws_actions.proofs.Variables.{names_stay, outer_set}

-- `$q` was set to a value of this word
pub record WasSet (x : ℕ) (before after : List Binding) : Type 0 where
  pub value : JsValue
  pub old : JsValue
  pub was : value_in before (name_of spare_high) ≡ Some old
  pub has_word : to_uint32_of value ≡ x
  pub is : after ≡ with_value (name_of spare_high) value before

abbrev pub HasHigh : Option ℕ → (before after : List Binding) → Type 0
HasHigh None before after = after ≡ before
HasHigh (Some x) before after = WasSet x before after

-- nothing but locals and perhaps `$q` has changed
pub record IsAfter (high : Option ℕ) (p q : Place) : Type 0 where
  pub heap : q.heap ≡ p.heap
  pub units : q.units ≡ p.units
  pub events : q.events ≡ p.events
  pub replies : q.replies ≡ p.replies
  pub globals : HasHigh high p.globals q.globals

-- a body returns a value of this word
abbrev pub Returns : ℕ → Option ℕ → Place → Run Completion → Type 0
Returns w h p (goes (returned v) q) = (to_uint32_of v ≡ w) × IsAfter h p q
Returns w h p (goes normal q) = ⊥
Returns w h p (goes (broken n) q) = ⊥
Returns w h p (goes (continued n) q) = ⊥
Returns w h p (stops e q) = ⊥
Returns w h p (spent q) = ⊥
Returns w h p wrong = Unit {0}

abbrev pub placed : Place → ℕ → List Binding → Place
placed p n locals = record p { units = n; locals = locals }

same_variables : (b : Bool) (p q : Place) → q.locals ≡ p.locals → q.globals ≡ p.globals → variables b q ≡ variables b p
same_variables true p q e f = e
same_variables false p q e f = f

same_word : (n : Name) (p q : Place) → q.locals ≡ p.locals → q.globals ≡ p.globals → word_at q n ≡ word_at p n
same_word n p q e f = ap (λ bs. word_bound (value_in bs (spelled n))) (same_variables (is_own n) p q e f)

pub words_after : (h : Option ℕ) (p q : Place) → q.locals ≡ p.locals → HasHigh h p.globals q.globals → (n : Name) → word_at q n ≡ with_high h (word_at p) n
words_after None p q e f n = same_word n p q e f
words_after (Some x) p q e f n =
    same_word n (record p { globals = with_value (name_of spare_high) f.value p.globals }) q e f.is
    ∙ outer_set (fixed spare_high) n f.value f.old p refl f.was
    ∙ ap (λ y. with_word (fixed spare_high) y (word_at p) n) f.has_word

names_after : (h : Option ℕ) (before after : List Binding) → HasHigh h before after → names_in after ≡ names_in before
names_after None before after f = ap names_in f
names_after (Some x) before after f = ap names_in f.is ∙ names_stay (name_of spare_high) f.value before

-- a call gives a value of this word for so many units, and nothing else has changed but perhaps `$q`
pub record IsCalled (high : Option ℕ) (units : ℕ) (p q : Place) : Type 0 where
  pub left : q.units + units ≡ p.units
  pub heap : q.heap ≡ p.heap
  pub events : q.events ≡ p.events
  pub replies : q.replies ≡ p.replies
  pub locals : q.locals ≡ p.locals
  pub globals : HasHigh high p.globals q.globals

abbrev pub CallGives : ℕ → Option ℕ → (units : ℕ) → Place → Run JsValue → Type 0
CallGives w h units p (goes v q) = (to_uint32_of v ≡ w) × IsCalled h units p q
CallGives w h units p (stops e q) = ⊥
CallGives w h units p (spent q) = IsShort units p q
CallGives w h units p wrong = Unit {0}

-- so it helps
pub call_helps : (bytes w : ℕ) (h : Option ℕ) (units : ℕ) (p : Place) → IsHeap bytes p.heap → (r : Run JsValue) → CallGives w h units p r → Helps bytes (gives w h p.heap) units p r
call_helps bytes w h units p heap (goes v q) k = (
  k.0,
  record {
    has_words = words_after h p q k.1.locals k.1.globals;
    has_heap = k.1.heap;
    is_heap = heap;
    left = k.1.left;
    locals = ap names_in k.1.locals;
    globals = names_after h p.globals q.globals k.1.globals;
    events = k.1.events;
    replies = k.1.replies;
  },
)
call_helps bytes w h units p heap (stops e q) k = absurd k
call_helps bytes w h units p heap (spent q) k = k
call_helps bytes w h units p heap wrong k = tt

module _ (m : Module) (g : Function) (vs : List JsValue) (w : ℕ) (h : Option ℕ) where
  ended : (p : Place) (n : ℕ) (locals : List Binding) → p.units ≡ suc n → (r : Run Completion) → Returns w h (placed p n locals) r
      → CallGives w h 1 p (after (after r (λ d. function_end d)) (back_to p.locals))
  ended p n locals e (goes (returned v) q) k = (
    k.0,
    record {
      left = let u = k.1.units in omega (arith, u, e);
      heap = k.1.heap;
      events = k.1.events;
      replies = k.1.replies;
      locals = refl;
      globals = k.1.globals;
    },
  )
  ended p n locals e (goes normal q) k = absurd k
  ended p n locals e (goes (broken x) q) k = absurd k
  ended p n locals e (goes (continued x) q) k = absurd k
  ended p n locals e (stops x q) k = absurd k
  ended p n locals e (spent q) k = absurd k
  ended p n locals e wrong k = tt

  pub call_gives : (bound : ℕ) (p : Place) → p.units ≤ bound
      → ((d n : ℕ) (locals : List Binding) → first_locals g vs ≡ Some locals → Returns w h (placed p n locals) (exec_all false (call_at false m d) (scope_of m g) d g.body (placed p n locals)))
      → CallGives w h 1 p (call_at false m bound g vs p)
  call_gives zero p le body = record { few = omega arith; events = refl }
  call_gives (suc d) p le body = by p.units refl
    where
      with_them : (n : ℕ) → p.units ≡ suc n → (o : Option (List Binding)) → first_locals g vs ≡ o
          → CallGives w h 1 p (after (defined o (record p { units = n })) (λ locals. with_locals locals (and_then (exec_all false (call_at false m d) (scope_of m g) d g.body) (λ d. function_end d))))
      with_them n e None is = tt
      with_them n e (Some locals) is = ended p n locals e (exec_all false (call_at false m d) (scope_of m g) d g.body (placed p n locals)) (body d n locals is)

      by : (u : ℕ) → p.units ≡ u
          → CallGives w h 1 p
          (after (paid u p) (λ _. and_then (defined (first_locals g vs)) (λ locals. with_locals locals (and_then (exec_all false (call_at false m d) (scope_of m g) d g.body) (λ d. function_end d)))))
      by zero e = record { few = omega (arith, e); events = refl }
      by (suc n) e = with_them n e (first_locals g vs) refl

pub called : (m : Module) (g : Function) (bytes : ℕ) (vs : List JsValue) (w : ℕ) (h : Option ℕ) (bound : ℕ) (p : Place) → IsHeap bytes p.heap → p.units ≤ bound
    → ((d n : ℕ) (locals : List Binding) → first_locals g vs ≡ Some locals → Returns w h (placed p n locals) (exec_all false (call_at false m d) (scope_of m g) d g.body (placed p n locals)))
    → Helps bytes (gives w h p.heap) 1 p (call_at false m bound g vs p)
called m g bytes vs w h bound p heap le body = call_helps bytes w h 1 p heap (call_at false m bound g vs p) (call_gives m g vs w h bound p le body)

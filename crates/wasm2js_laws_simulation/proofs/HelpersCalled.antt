-- Calls of helpers, with all that they leave as it was; where they go wrong nothing is asked.
use Rattle.std.proofs.Common.{◌≡◌, ℕ, zero, suc, ◌<◌, ◌≤◌, false, List, [], ◌∷◌, length, map, Option, Some, None, pos, refl, sym, ◌∙◌, arith}
use Rattle.sem_words.specs.declared.js_value.JsValue.{JsValue}
use Rattle.sem_words.specs.declared.js_value.JsValue.TheVariants.{Whole}
use Rattle.sem_words.specs.JsValues.{to_uint32_of}
use Rattle.sem_words.specs.JsOperators.{signed_value}
use Rattle.sem_words.specs.Words.{set_bits_of}
use Rattle.session_lang.specs.Imports.{low_word, high_word}
use Rattle.asm_lang.specs.Modules.{Function, Module}
use Rattle.asm_lang_valid.specs.Typed.{scope_of}
use Rattle.asm_lang_exec.specs.Runs.{Binding, Place, Run, goes, stops, spent, wrong, after, and_then, defined, paid, with_locals, back_to}
use Rattle.asm_lang_exec.specs.Meaning.{Completion, normal, broken, continued, returned, exec_all, first_locals, function_end, call_at}
use Rattle.wasm2js_translation.specs.Helpers.{set_bits_function}
use Rattle.wasm2js_lang.specs.Helpers.{turned, counted, bits_set, Leaves, IsBack}
use Rattle.wasm2js_laws_helpers.specs.Answers.{length_of}
use Rattle.wasm2js_laws_helpers.proofs.Called.{HasHigh, Returns, placed}
use Rattle.wasm2js_laws_helpers.proofs.Turned as three
use Rattle.wasm2js_laws_helpers.proofs.Turned.{the_locals, whole}
use Rattle.wasm2js_laws_helpers.proofs.Zeros as two
use Rattle.wasm2js_laws_helpers.proofs.Bits.{Pops, pop_locals, body, few_units}

abbrev pub MayComeBack : (word : ℕ) → (high : Option ℕ) → (units : ℕ) → Place → Run JsValue → Type 0
MayComeBack word high units p (goes value q) = IsBack word high units p value q
MayComeBack word high units p (stops end q) = ⊥
MayComeBack word high units p (spent q) = (p.units < units) × (q.events ≡ p.events)
MayComeBack word high units p wrong = Unit {0}

leaves : (high : Option ℕ) (before later : List Binding) → HasHigh high before later → Leaves high before later
leaves None before later h = h
leaves (Some x) before later h = record { value = h.value; has_word = h.has_word; only = h.is }

-- ---- a call of one unit

module _ (m : Module) (g : Function) (vs : List JsValue) (w : ℕ) (high : Option ℕ) where
  ended : (p : Place) (n : ℕ) (locals : List Binding) → p.units ≡ suc n → (r : Run Completion) → Returns w high (placed p n locals) r
      → MayComeBack w high 1 p (after (after r (λ d. function_end d)) (back_to p.locals))
  ended p n locals e (goes (returned v) q) k = record {
    has_word = k.0;
    leaves = leaves high p.globals q.globals k.1.globals;
    enough = let u = k.1.units in omega (arith, u, e);
    locals = refl;
    heap = k.1.heap;
    replies = k.1.replies;
    events = k.1.events;
  }
  ended p n locals e (goes normal q) k = absurd k
  ended p n locals e (goes (broken x) q) k = absurd k
  ended p n locals e (goes (continued x) q) k = absurd k
  ended p n locals e (stops x q) k = absurd k
  ended p n locals e (spent q) k = absurd k
  ended p n locals e wrong k = tt

  pub called : (bound : ℕ) (p : Place) → p.units ≤ bound
      → ((d n : ℕ) (locals : List Binding) → first_locals g vs ≡ Some locals → Returns w high (placed p n locals) (exec_all false (call_at false m d) (scope_of m g) d g.body (placed p n locals)))
      → MayComeBack w high 1 p (call_at false m bound g vs p)
  called zero p le inside = (omega arith, refl)
  called (suc d) p le inside = by p.units refl
    where
      with_them : (n : ℕ) → p.units ≡ suc n → (o : Option (List Binding)) → first_locals g vs ≡ o
          → MayComeBack w high 1 p (after (defined o (record p { units = n })) (λ locals. with_locals locals (and_then (exec_all false (call_at false m d) (scope_of m g) d g.body) (λ d. function_end d))))
      with_them n e None is = tt
      with_them n e (Some locals) is = ended p n locals e (exec_all false (call_at false m d) (scope_of m g) d g.body (placed p n locals)) (inside d n locals is)

      by : (u : ℕ) → p.units ≡ u
          → MayComeBack w high 1 p
          (after (paid u p) (λ _. and_then (defined (first_locals g vs)) (λ locals. with_locals locals (and_then (exec_all false (call_at false m d) (scope_of m g) d g.body) (λ d. function_end d)))))
      by zero e = (omega (arith, e), refl)
      by (suc n) e = with_them n e (first_locals g vs) refl

-- with three arguments
pub turned_back : (m : Module) (g : Function) (op : ℕ → ℕ → ℕ → ℕ) (locals_for : JsValue → JsValue → JsValue → List Binding)
    → ((vs : List JsValue) → first_locals g vs ≡ three.locals_of m g op locals_for vs) → three.Body m g op locals_for
    → (bound : ℕ) (vs : List JsValue) (p : Place) → length vs ≡ 3 → p.units ≤ bound
    → MayComeBack (low_word (turned op (map to_uint32_of vs))) (Some (high_word (turned op (map to_uint32_of vs)))) 1 p (call_at false m bound g vs p)
turned_back m g op locals_for first inside bound [] p many le = absurd (cc many)
turned_back m g op locals_for first inside bound (v ∷ []) p many le = absurd (cc many)
turned_back m g op locals_for first inside bound (v ∷ w ∷ []) p many le = absurd (cc many)
turned_back m g op locals_for first inside bound (v ∷ w ∷ u ∷ []) p many le =
    called m g (v ∷ w ∷ u ∷ []) (low_word (whole op v w u)) (Some (high_word (whole op v w u))) bound p le
    (λ d n locals is. inside v w u p d n locals (the_locals locals _ (sym is ∙ first (v ∷ w ∷ u ∷ []))))
turned_back m g op locals_for first inside bound (v ∷ w ∷ u ∷ x ∷ more) p many le = absurd (cc many)

-- with two
pub counted_back : (m : Module) (g : Function) (op : ℕ → ℕ → ℕ) → ((vs : List JsValue) → first_locals g vs ≡ two.locals_of m g op vs) → two.Body m g op
    → (bound : ℕ) (vs : List JsValue) (p : Place) → length vs ≡ 2 → p.units ≤ bound → MayComeBack (counted op (map to_uint32_of vs)) None 1 p (call_at false m bound g vs p)
counted_back m g op first inside bound [] p many le = absurd (cc many)
counted_back m g op first inside bound (v ∷ []) p many le = absurd (cc many)
counted_back m g op first inside bound (v ∷ w ∷ []) p many le =
    called m g (v ∷ w ∷ []) (counted op (to_uint32_of v ∷ to_uint32_of w ∷ [])) None bound p le (λ d n locals is. inside v w p d n locals (the_locals locals _ (sym is ∙ first (v ∷ w ∷ []))))
counted_back m g op first inside bound (v ∷ w ∷ u ∷ more) p many le = absurd (cc many)

-- ---- the set bits of a word, by a loop

module _ (m : Module) (v : JsValue) where
  abbrev result : ℕ
  result = set_bits_of 32 (to_uint32_of v)

  abbrev cost : ℕ
  cost = suc (length_of 32 (to_uint32_of v))

  popped : (p : Place) (n : ℕ) (locals : List Binding) → p.units ≡ suc n → (r : Run Completion) → Pops result cost (placed p n locals) r
      → MayComeBack result None 34 p (after (after r (λ d. function_end d)) (back_to p.locals))
  popped p n locals e (goes (returned y) q) k = record {
    has_word = k.0;
    leaves = k.5;
    enough = let u = k.1 in let few = few_units (to_uint32_of v) in omega (arith, u, e, few);
    locals = refl;
    heap = k.2;
    replies = k.4;
    events = k.3;
  }
  popped p n locals e (goes normal q) k = absurd k
  popped p n locals e (goes (broken x) q) k = absurd k
  popped p n locals e (goes (continued x) q) k = absurd k
  popped p n locals e (stops x q) k = absurd k
  popped p n locals e (spent q) k = let u = k.0 in let few = few_units (to_uint32_of v) in (omega (arith, u, e, few), k.1)
  popped p n locals e wrong k = tt

  pop_called : (bound : ℕ) (p : Place) → p.units ≤ bound → MayComeBack result None 34 p (call_at false m bound set_bits_function (v ∷ []) p)
  pop_called zero p le = (omega arith, refl)
  pop_called (suc d) p le = by p.units refl
    where
      by : (u : ℕ) → p.units ≡ u
          → MayComeBack result None 34 p
          (after (paid u p) (λ _. and_then (defined (first_locals set_bits_function (v ∷ []))) (λ locals. with_locals locals (and_then (exec_all false (call_at false m d) (scope_of m set_bits_function) d set_bits_function.body) (λ d. function_end d)))))
      by zero e = (omega (arith, e), refl)
      by (suc n) e =
          popped p n (pop_locals (signed_value (to_uint32_of v)) (Whole (pos 0))) e
          (exec_all false (call_at false m d) (scope_of m set_bits_function) d set_bits_function.body (placed p n (pop_locals (signed_value (to_uint32_of v)) (Whole (pos 0)))))
          (body m v d n p (omega (arith, e, le)))

pub bits_back : (m : Module) (bound : ℕ) (vs : List JsValue) (p : Place) → length vs ≡ 1 → p.units ≤ bound
    → MayComeBack (bits_set (map to_uint32_of vs)) None 34 p (call_at false m bound set_bits_function vs p)
bits_back m bound [] p many le = absurd (cc many)
bits_back m bound (v ∷ []) p many le = pop_called m v bound p le
bits_back m bound (v ∷ w ∷ more) p many le = absurd (cc many)

-- Two parts of which the second has j more units and at least the same bounds: it does the same, or goes on from the same events.
use Rattle.std.proofs.Common.{◌≡◌, ℕ, zero, suc, ◌+◌, ◌≤◌, Bool, true, false, List, [], ◌∷◌, Option, Some, None, refl, sym, ap, subst, arith}
use Rattle.std.specs.Prelude.{if◌then◌else◌}
use Rattle.sem_words.specs.declared.js_value.JsValue.{JsValue}
use Rattle.sem_words.specs.declared.js_value.JsValue.TheVariants.{Whole}
use Rattle.asm_types.specs.declared.value_type.ValueType.{ValueType}
use Rattle.session_lang.specs.Imports.{ImportAnswer, goes_on, ends}
use Rattle.session_lang.specs.Observation.{EventPlain, IsPrefix}
use Rattle.session_lang.proofs.BelowLaws.{prefix_same, prefix_trans}
use Rattle.asm_lang_valid.specs.Scope.{Meaning, a_view}
use Rattle.asm_lang_exec.specs.Runs.{Binding, Place, Run, goes, stops, spent, wrong, Part, after, and_then, gives, goes_wrong, defined, paid, pay, read, written, write, back_to, with_locals, add_event}
use Rattle.asm_lang_exec.specs.Values.{read_element, write_element, answered, call_import}
use Rattle.asm_lang_exec.specs.Meaning.{in_type, seen}

abbrev pub more : ℕ → Place → Place
more j p = record p { units = p.units + j }

-- the events that were there stay
abbrev pub Keeps : {A : Type 0} → List EventPlain → Run A → Type 0
Keeps es (goes a p) = IsPrefix es p.events
Keeps es (stops e p) = IsPrefix es p.events
Keeps es (spent p) = IsPrefix es p.events
Keeps es wrong = Unit {0}

-- where a part was out of units, one with as many is out of them too, and one with more goes on from there
abbrev pub Later : {A : Type 0} → ℕ → Place → Run A → Type 0
Later zero p r = r ≡ spent (more 0 p)
Later (suc j) p r = Keeps p.events r

-- of a part that began with n units, and one that began with j more
abbrev pub Grows : {A : Type 0} → ℕ → ℕ → Run A → Run A → Type 0
Grows n j (goes a p) r = (p.units ≤ n) × (r ≡ goes a (more j p))
Grows n j (stops e p) r = r ≡ stops e (more j p)
Grows n j (spent p) r = Later j p r
Grows n j wrong r = r ≡ wrong

-- from each place with at most u units
pub record Grown {A : Type 0} (u j : ℕ) (f f' : Part A) : Type 0 where
  pub grows : (p : Place) → p.units ≤ u → Grows p.units j (f p) (f' (more j p))
  pub kept : (p : Place) → Keeps p.events (f' p)

-- ---- one part after another

keeps_trans : {A : Type 0} (es fs : List EventPlain) (r : Run A) → IsPrefix es fs → Keeps fs r → Keeps es r
keeps_trans es fs (goes a p) h k = prefix_trans es fs p.events h k
keeps_trans es fs (stops e p) h k = prefix_trans es fs p.events h k
keeps_trans es fs (spent p) h k = prefix_trans es fs p.events h k
keeps_trans es fs wrong h k = tt

pub keeps_after : {A B : Type 0} (es : List EventPlain) (r : Run A) (k : A → Part B) → ((a : A) (p : Place) → Keeps p.events (k a p)) → Keeps es r → Keeps es (after r k)
keeps_after es (goes a p) k each h = keeps_trans es p.events (k a p) h (each a p)
keeps_after es (stops e p) k each h = h
keeps_after es (spent p) k each h = h
keeps_after es wrong k each h = tt

grows_wider : {A : Type 0} (n m j : ℕ) (r r' : Run A) → n ≤ m → Grows n j r r' → Grows m j r r'
grows_wider n m j (goes a p) r' h g = (omega (arith, g.0), g.1)
grows_wider n m j (stops e p) r' h g = g
grows_wider n m j (spent p) r' h g = g
grows_wider n m j wrong r' h g = g

later_after : {A B : Type 0} (j : ℕ) (p : Place) (r : Run A) (k : A → Part B) → ((a : A) (p : Place) → Keeps p.events (k a p)) → Later j p r → Later j p (after r k)
later_after zero p r k each h = ap (λ r. after r k) h
later_after (suc j) p r k each h = keeps_after p.events r k each h

grows_after : {A B : Type 0} (n j : ℕ) (r r' : Run A) (k k' : A → Part B)
    → ((a : A) (p : Place) → p.units ≤ n → Grows p.units j (k a p) (k' a (more j p))) → ((a : A) (p : Place) → Keeps p.events (k' a p))
    → Grows n j r r' → Grows n j (after r k) (after r' k')
grows_after n j (goes a p) r' k k' each kept h =
    subst (λ r. Grows n j (k a p) (after r k')) (sym h.1) (grows_wider p.units n j (k a p) (k' a (more j p)) h.0 (each a p h.0))
grows_after n j (stops e p) r' k k' each kept h = ap (λ r. after r k') h
grows_after n j (spent p) r' k k' each kept h = later_after j p r' k' kept h
grows_after n j wrong r' k k' each kept h = ap (λ r. after r k') h

pub same_events : (p : Place) → IsPrefix p.events p.events
same_events p = prefix_same p.events p.events refl

module _ {u j : ℕ} where
  pub grown_then : {A B : Type 0} {f f' : Part A} {k k' : A → Part B} → Grown u j f f' → ((a : A) → Grown u j (k a) (k' a)) → Grown u j (and_then f k) (and_then f' k')
  grown_then {A} {B} {f} {f'} {k} {k'} h each = record {
    grows = λ p le. grows_after p.units j (f p) (f' (more j p)) k k' (λ a q l. (each a).grows q (omega arith)) (λ a q. (each a).kept q) (h.grows p le);
    kept = λ p. keeps_after p.events (f' p) k' (λ a q. (each a).kept q) (h.kept p);
  }

  pub grown_gives : {A : Type 0} (a : A) → Grown u j (gives a) (gives a)
  grown_gives a = record { grows = λ p le. (omega arith, refl); kept = same_events }

  pub grown_wrong : {A : Type 0} → Grown u j (goes_wrong {A = A}) (goes_wrong {A = A})
  grown_wrong = record { grows = λ p le. refl; kept = λ p. tt }

  pub grown_defined : {A : Type 0} (o : Option A) → Grown u j (defined o) (defined o)
  grown_defined None = record { grows = λ p le. refl; kept = λ p. tt }
  grown_defined (Some a) = record { grows = λ p le. (omega arith, refl); kept = same_events }

  pub grown_if : {A : Type 0} (b : Bool) {f f' g g' : Part A} → Grown u j f f' → Grown u j g g' → Grown u j (if b then f else g) (if b then f' else g')
  grown_if true h i = h
  grown_if false h i = i

  pub grown_seen : (checks : Bool) (o : Option ValueType) {f f' : Part JsValue} → Grown u j f f' → Grown u j (seen checks o f) (seen checks o f')
  grown_seen false o h = h
  grown_seen true o h = grown_then h (λ v. grown_if (in_type o v) (grown_gives v) grown_wrong)

  -- ---- parts that take no unit

  pub grown_read : (n : List ℕ) → Grown u j (read n) (read n)
  grown_read n = record { grows = λ p le. (grown_defined {A = JsValue} _).grows p le; kept = λ p. (grown_defined {A = JsValue} _).kept p }

  pub grown_write : (n : List ℕ) (v : JsValue) → Grown u j (write n v) (write n v)
  grown_write n v = record { grows = λ p le. by p _ _; kept = λ p. keeps p _ _ }
    where
      by : (p : Place) (o q : Option JsValue) → Grows p.units j (written o q n v p) (written o q n v (more j p))
      by p (Some x) q = (omega arith, refl)
      by p None (Some x) = (omega arith, refl)
      by p None None = refl

      keeps : (p : Place) (o q : Option JsValue) → Keeps p.events (written o q n v p)
      keeps p (Some x) q = same_events p
      keeps p None (Some x) = same_events p
      keeps p None None = tt

  pub grown_read_element : (m : Meaning) (x : JsValue) → Grown u j (read_element m x) (read_element m x)
  grown_read_element (a_view v) (Whole i) = record { grows = λ p le. (omega arith, refl); kept = same_events }
  grown_read_element _ _ = record { grows = λ p le. refl; kept = λ p. tt }

  pub grown_write_element : (m : Meaning) (x v : JsValue) → Grown u j (write_element m x v) (write_element m x v)
  grown_write_element (a_view k) (Whole i) v = record { grows = λ p le. (omega arith, refl); kept = same_events }
  grown_write_element _ _ v = record { grows = λ p le. refl; kept = λ p. tt }

  pub grown_import : (name : List ℕ) (vs : List JsValue) → Grown u j (call_import name vs) (call_import name vs)
  grown_import name vs = record { grows = λ p le. by p _; kept = λ p. keeps p _ }
    where
      by : (p : Place) (a : ImportAnswer) → Grows p.units j (answered a p) (answered a (more j p))
      by p (ends e) = refl
      by p (goes_on g) = (omega arith, refl)

      keeps : (p : Place) (a : ImportAnswer) → Keeps p.events (answered a p)
      keeps p (ends e) = same_events p
      keeps p (goes_on g) = (g.events, refl)

  pub grown_event : (e : EventPlain) → Grown u j (add_event e) (add_event e)
  grown_event e = record { grows = λ p le. (omega arith, refl); kept = λ p. (e ∷ [], refl) }

  pub grown_locals : {A : Type 0} (locals : List Binding) {f f' : Part A} → Grown u j f f' → Grown u j (with_locals locals f) (with_locals locals f')
  grown_locals {A} locals {f} {f'} h = record {
    grows = λ p le. grows_after p.units j (f (record p { locals = locals })) (f' (record (more j p) { locals = locals })) (back_to p.locals) (back_to p.locals) (λ a q l. (omega arith, refl)) (λ a q. same_events q) (h.grows (record p { locals = locals }) le);
    kept = λ p. keeps_after p.events (f' (record p { locals = locals })) (back_to p.locals) (λ a q. same_events q) (h.kept (record p { locals = locals }));
  }

-- ---- units

pub paid_keeps : {A : Type 0} (n : ℕ) (p : Place) (g : Part A) → ((q : Place) → Keeps q.events (g q)) → Keeps p.events (after (paid n p) (λ _. g))
paid_keeps zero p g kept = prefix_same p.events p.events refl
paid_keeps (suc n) p g kept = kept (record p { units = n })

paid_grows : {A : Type 0} (n j : ℕ) (p : Place) (g g' : Part A) → ((v : ℕ) → v + 1 ≡ n → Grows v j (g (record p { units = v })) (g' (record p { units = v + j }))) → ((q : Place) → Keeps q.events (g' q))
    → Grows n j (after (paid n p) (λ _. g)) (after (paid (n + j) (more j p)) (λ _. g'))
paid_grows zero zero p g g' each kept = refl
paid_grows zero (suc j) p g g' each kept = paid_keeps (0 + suc j) (more (suc j) p) g' kept
paid_grows (suc v) j p g g' each kept =
    let e : suc (v + j) ≡ suc v + j = omega arith in
    subst (λ k. Grows (suc v) j (g (record p { units = v })) (after (paid k (more j p)) (λ _. g'))) e
    (grows_wider v (suc v) j (g (record p { units = v })) (g' (record p { units = v + j })) (omega arith) (each v (omega arith)))

-- a part after a unit was taken has fewer
pub grown_pay : {A : Type 0} (u j : ℕ) (g g' : Part A) → ((v : ℕ) → v + 1 ≤ u → Grown v j g g') → ((q : Place) → Keeps q.events (g' q)) → Grown u j (and_then pay (λ _. g)) (and_then pay (λ _. g'))
grown_pay u j g g' each kept = record {
  grows = λ p le. paid_grows p.units j p g g' (λ v e. (each v (omega arith)).grows (record p { units = v }) (omega arith)) kept;
  kept = λ p. paid_keeps p.units p g' kept;
}

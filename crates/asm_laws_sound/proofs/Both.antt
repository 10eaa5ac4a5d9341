-- Two runs that end alike and not wrong, the second with checks; and what holds of the value and the variables where they go on.
use Rattle.std.proofs.Common.{◌≡◌, ℕ, zero, suc, Bool, true, false, List, Option, Some, None, refl, ap, ◌∙◌}
use Rattle.std.specs.Prelude.{if◌then◌else◌}
use Rattle.sem_words.specs.declared.js_value.JsValue.{JsValue}
use Rattle.asm_types.specs.declared.value_type.ValueType.{ValueType}
use Rattle.asm_types.specs.Values.{fits_of}
use Rattle.session_lang.specs.Observation.{EventPlain}
use Rattle.asm_lang_exec.specs.Runs.{Binding, Place, Run, goes, stops, spent, wrong, Part, after, and_then, gives, goes_wrong, defined, out_of_units, paid, pay, back_to, with_locals, add_event}
use Rattle.asm_lang_exec.specs.Meaning.{in_type, seen}

abbrev pub EndsIn : {A : Type 0} → (List Binding → List Binding → Type 0) → (A → Type 0) → Run A → Type 0
EndsIn I P (goes a p) = P a × I p.locals p.globals
EndsIn I P (stops e p) = Unit {0}
EndsIn I P (spent p) = Unit {0}
EndsIn I P wrong = ⊥

-- the second is the same as the first, which isn't wrong
pub record Both {A : Type 0} (I : List Binding → List Binding → Type 0) (P : A → Type 0) (r r' : Run A) : Type 0 where
  pub good : EndsIn I P r
  pub same : r' ≡ r

-- from each place where I holds
pub record Sound {A : Type 0} (I : List Binding → List Binding → Type 0) (P : A → Type 0) (f f' : Part A) : Type 0 where
  pub both : (p : Place) → I p.locals p.globals → Both I P (f p) (f' p)

pub both_goes : {A : Type 0} {I : List Binding → List Binding → Type 0} {P : A → Type 0} {a : A} {p : Place} → P a → I p.locals p.globals → Both I P (goes a p) (goes a p)
both_goes h i = record { good = (h, i); same = refl }

pub both_after : {A B : Type 0} (I J : List Binding → List Binding → Type 0) (P : A → Type 0) (Q : B → Type 0) (r r' : Run A) (k k' : A → Part B)
    → Both I P r r' → ((a : A) (p : Place) → P a → I p.locals p.globals → Both J Q (k a p) (k' a p)) → Both J Q (after r k) (after r' k')
both_after I J P Q (goes a p) r' k k' h f = let b = f a p h.good.0 h.good.1 in record { good = b.good; same = ap (λ r. after r k') h.same ∙ b.same }
both_after I J P Q (stops e p) r' k k' h f = record { good = tt; same = ap (λ r. after r k') h.same }
both_after I J P Q (spent p) r' k k' h f = record { good = tt; same = ap (λ r. after r k') h.same }
both_after I J P Q wrong r' k k' h f = absurd h.good

weaker : {A : Type 0} (I : List Binding → List Binding → Type 0) (P Q : A → Type 0) (r r' : Run A) → ((a : A) → P a → Q a) → Both I P r r' → Both I Q r r'
weaker I P Q (goes a p) r' f h = record { good = (f a h.good.0, h.good.1); same = h.same }
weaker I P Q (stops e p) r' f h = record { good = tt; same = h.same }
weaker I P Q (spent p) r' f h = record { good = tt; same = h.same }
weaker I P Q wrong r' f h = absurd h.good

seen_same : (I : List Binding → List Binding → Type 0) (t : ValueType) (K : JsValue → Type 0) (r : Run JsValue) → EndsIn I (λ v. (fits_of t v ≡ true) × K v) r → after r (λ v. if in_type (Some t) v then gives v else goes_wrong) ≡ r
seen_same I t K (goes v p) h = rw h.0.0 refl
seen_same I t K (stops e p) h = refl
seen_same I t K (spent p) h = refl
seen_same I t K wrong h = absurd h

unseen_same : (r : Run JsValue) → after r (λ v. if in_type None v then gives v else goes_wrong) ≡ r
unseen_same (goes v p) = refl
unseen_same (stops e p) = refl
unseen_same (spent p) = refl
unseen_same wrong = refl

-- an operation that has a value, of which P holds
pub record Given {A : Type 0} (P : A → Type 0) (o : Option A) : Type 0 where
  pub value : A
  pub is : o ≡ Some value
  pub holds : P value

module _ {I : List Binding → List Binding → Type 0} where
  pub sound_then : {A B : Type 0} {P : A → Type 0} {Q : B → Type 0} {f f' : Part A} {k k' : A → Part B} → Sound I P f f' → ((a : A) → P a → Sound I Q (k a) (k' a)) → Sound I Q (and_then f k) (and_then f' k')
  sound_then {A} {B} {P} {Q} {f} {f'} {k} {k'} h each = record { both = λ p i. both_after I I P Q (f p) (f' p) k k' (h.both p i) (λ a q g j. (each a g).both q j) }

  pub sound_gives : {A : Type 0} {P : A → Type 0} (a : A) → P a → Sound I P (gives a) (gives a)
  sound_gives a h = record { both = λ p i. both_goes h i }

  pub sound_weaker : {A : Type 0} {P Q : A → Type 0} {f f' : Part A} → ((a : A) → P a → Q a) → Sound I P f f' → Sound I Q f f'
  sound_weaker {A} {P} {Q} {f} {f'} w h = record { both = λ p i. weaker I P Q (f p) (f' p) w (h.both p i) }

  pub sound_if : {A : Type 0} {P : A → Type 0} (b : Bool) {f f' g g' : Part A} → Sound I P f f' → Sound I P g g' → Sound I P (if b then f else g) (if b then f' else g')
  sound_if true h i = h
  sound_if false h i = i

  pub sound_defined : {A : Type 0} {P : A → Type 0} {o : Option A} → Given P o → Sound I P (defined o) (defined o)
  sound_defined {A} {P} {o} g = record { both = λ p i. at p i g.value g.is g.holds }
    where
      at : (p : Place) → I p.locals p.globals → (a : A) → o ≡ Some a → P a → Both I P (defined o p) (defined o p)
      at p i a e h = rw e (both_goes h i)

  pub sound_out : {A : Type 0} {P : A → Type 0} → Sound I P (out_of_units {A = A}) (out_of_units {A = A})
  sound_out = record { both = λ p i. record { good = tt; same = refl } }

  pub sound_pay : Sound I (λ _. Unit {0}) pay pay
  sound_pay = record { both = λ p i. by p.units p i }
    where
      by : (n : ℕ) (p : Place) → I p.locals p.globals → Both I (λ _. Unit {0}) (paid n p) (paid n p)
      by zero p i = record { good = tt; same = refl }
      by (suc n) p i = both_goes tt i

  pub sound_event : (e : EventPlain) → Sound I (λ _. Unit {0}) (add_event e) (add_event e)
  sound_event e = record { both = λ p i. both_goes tt i }

  -- a value of its type passes the check
  pub sound_seen : (o : Option ValueType) (t : ValueType) {K : JsValue → Type 0} {f f' : Part JsValue} → o ≡ Some t → Sound I (λ v. (fits_of t v ≡ true) × K v) f f' → Sound I (λ v. (fits_of t v ≡ true) × K v) (seen false o f) (seen true o f')
  sound_seen o t {K} {f} {f'} e h = record {
    both = λ p i. let b = h.both p i in record { good = b.good; same = rw e (ap (λ r. after r (λ v. if in_type (Some t) v then gives v else goes_wrong)) b.same ∙ seen_same I t K (f p) b.good) };
  }

  -- and so does any value where there is no type
  pub sound_unseen : {o : Option ValueType} {P : JsValue → Type 0} {f f' : Part JsValue} → o ≡ None → Sound I P f f' → Sound I P (seen false o f) (seen true o f')
  sound_unseen {o} {P} {f} {f'} e h = record {
    both = λ p i. let b = h.both p i in record { good = b.good; same = rw e (ap (λ r. after r (λ v. if in_type None v then gives v else goes_wrong)) b.same ∙ unseen_same (f p)) };
  }

-- a part with local variables of its own, of which J holds
pub sound_locals : {A : Type 0} {P : A → Type 0} (L M G : List Binding → Type 0) (locals : List Binding) (f f' : Part A) → L locals → Sound (λ l g. L l × G g) P f f' → Sound (λ l g. M l × G g) P (with_locals locals f) (with_locals locals f')
sound_locals {A} {P} L M G locals f f' l h = record {
  both = λ p i. both_after (λ l g. L l × G g) (λ l g. M l × G g) P P (f (record p { locals = locals })) (f' (record p { locals = locals })) (back_to p.locals) (back_to p.locals) (h.both (record p { locals = locals }) (l, i.1)) (λ a q g j. both_goes g (i.0, j.1));
}

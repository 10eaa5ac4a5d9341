-- Two runs that go on with the same values, at places that differ in the names of variables alone.
use Rattle.std.proofs.Common.{◌≡◌, ℕ, zero, suc, Bool, true, false, List, [], ◌∷◌, ◌++◌, Option, Some, None, refl, sym, ap, ◌∙◌, subst}
use Rattle.std.specs.Prelude.{if◌then◌else◌, map}
use Rattle.sem_words.specs.declared.js_value.JsValue.{JsValue}
use Rattle.sem_words.specs.declared.js_value.JsValue.TheVariants.{Whole}
use Rattle.heap_lang.specs.Heap.{load}
use Rattle.session_lang.specs.Imports.{ImportAnswer, goes_on, ends, answer_import}
use Rattle.session_lang.specs.Observation.{EventPlain, EndPlain}
use Rattle.asm_lang_valid.specs.Scope.{Meaning, a_view}
use Rattle.asm_lang_exec.specs.Runs.{Binding, Place, Run, goes, stops, spent, wrong, Part, after, and_then, gives, goes_wrong, defined, out_of_units, paid, pay, value_in, read, written, write, back_to, with_locals, add_event}
use Rattle.asm_lang_exec.specs.Values.{kind_of, element_value, read_element, write_element, word, answered, call_import}
use Rattle.asm_lang_exec.specs.Session.{observed}
use Rattle.asm_laws_alike.specs.Places.{place_of}
use Rattle.asm_laws_alike.proofs.Values.{SameBindings, same_value, same_written, same_missing}

-- the names of the variables on either side, of the functions that run and of the modules
pub record Sides : Type 0 where
  pub locals : List (List ℕ)
  pub locals' : List (List ℕ)
  pub globals : List (List ℕ)
  pub globals' : List (List ℕ)

pub record SamePlace (s : Sides) (p p' : Place) : Type 0 where
  pub locals : SameBindings s.locals s.locals' p.locals p'.locals
  pub globals : SameBindings s.globals s.globals' p.globals p'.globals
  pub heap : p'.heap ≡ p.heap
  pub replies : p'.replies ≡ p.replies
  pub events : p'.events ≡ p.events
  pub units : p'.units ≡ p.units

pub data SameRun (s : Sides) {A B : Type 0} (R : A → B → Type 0) : Run A → Run B → Type 0 where
  both_go : {a : A} {b : B} {p p' : Place} → R a b → SamePlace s p p' → SameRun s R (goes a p) (goes b p')
  both_stop : (e : EndPlain) {p p' : Place} → p'.events ≡ p.events → p'.heap ≡ p.heap → SameRun s R (stops e p) (stops e p')
  both_spent : {p p' : Place} → p'.events ≡ p.events → SameRun s R (spent p) (spent p')
  both_wrong : SameRun s R wrong wrong

-- from each two such places
pub record Same (s : Sides) {A B : Type 0} (R : A → B → Type 0) (f : Part A) (f' : Part B) : Type 0 where
  pub runs : (p p' : Place) → SamePlace s p p' → SameRun s R (f p) (f' p')

abbrev pub Equal : {A : Type 0} → A → A → Type 0
Equal a b = a ≡ b

-- ---- one part after another

same_after : (s : Sides) {A B C D : Type 0} {R : A → B → Type 0} {S : C → D → Type 0} {r : Run A} {r' : Run B} (k : A → Part C) (k' : B → Part D)
    → ((a : A) (b : B) → R a b → Same s S (k a) (k' b)) → SameRun s R r r' → SameRun s S (after r k) (after r' k')
same_after s k k' each (both_go h places) = (each _ _ h).runs _ _ places
same_after s k k' each (both_stop e events heap) = both_stop e events heap
same_after s k k' each (both_spent events) = both_spent events
same_after s k k' each both_wrong = both_wrong

module _ {s : Sides} where
  pub same_then : {A B C D : Type 0} {R : A → B → Type 0} {S : C → D → Type 0} {f : Part A} {f' : Part B} {k : A → Part C} {k' : B → Part D}
      → Same s R f f' → ((a : A) (b : B) → R a b → Same s S (k a) (k' b)) → Same s S (and_then f k) (and_then f' k')
  same_then {k = k} {k' = k'} h each = record { runs = λ p p' i. same_after s k k' each (h.runs p p' i) }

  -- where the value is the same
  pub same_value_then : {A C D : Type 0} {S : C → D → Type 0} {f f' : Part A} {k : A → Part C} {k' : A → Part D}
      → Same s Equal f f' → ((a : A) → Same s S (k a) (k' a)) → Same s S (and_then f k) (and_then f' k')
  same_value_then {S = S} {k = k} {k' = k'} h each = same_then h (λ a b e. subst (λ x. Same s S (k a) (k' x)) e (each a))

  pub same_gives : {A B : Type 0} {R : A → B → Type 0} {a : A} {b : B} → R a b → Same s R (gives a) (gives b)
  same_gives h = record { runs = λ p p' i. both_go h i }

  -- the values in another relation
  pub same_ends : {A B : Type 0} {R S : A → B → Type 0} {f : Part A} {f' : Part B} → Same s R f f' → ((a : A) (b : B) → R a b → S a b) → Same s S f f'
  same_ends {A} {B} {R} {S} h each = record { runs = λ p p' i. by _ _ (h.runs p p' i) }
    where
      by : (r : Run A) (r' : Run B) → SameRun s R r r' → SameRun s S r r'
      by r r' (both_go k i) = both_go (each _ _ k) i
      by r r' (both_stop e events heap) = both_stop e events heap
      by r r' (both_spent events) = both_spent events
      by r r' both_wrong = both_wrong

  pub same_wrong : {A B : Type 0} {R : A → B → Type 0} → Same s R (goes_wrong {A = A}) (goes_wrong {A = B})
  same_wrong = record { runs = λ p p' i. both_wrong }

  pub same_defined : {A : Type 0} (o : Option A) → Same s Equal (defined o) (defined o)
  same_defined None = record { runs = λ p p' i. both_wrong }
  same_defined (Some a) = record { runs = λ p p' i. both_go refl i }

  pub same_if : {A B : Type 0} {R : A → B → Type 0} (b : Bool) {f g : Part A} {f' g' : Part B} → Same s R f f' → Same s R g g' → Same s R (if b then f else g) (if b then f' else g')
  same_if true h i = h
  same_if false h i = i

  pub same_out_of_units : {A B : Type 0} {R : A → B → Type 0} → Same s R (out_of_units {A = A}) (out_of_units {A = B})
  same_out_of_units = record { runs = λ p p' i. both_spent i.events }

  pub same_pay : Same s Equal pay pay
  same_pay = record { runs = λ p p' i. subst (λ n. SameRun s Equal (paid p.units p) (paid n p')) (sym i.units) (by p.units p p' i) }
    where
      by : (n : ℕ) (p p' : Place) → SamePlace s p p' → SameRun s Equal (paid n p) (paid n p')
      by zero p p' i = both_spent i.events
      by (suc n) p p' i = both_go refl (record { locals = i.locals; globals = i.globals; heap = i.heap; replies = i.replies; events = i.events; units = refl })

  -- ---- variables

  -- a variable of the function, or else one of the module, stands at the same places
  pub same_read : (n n' : List ℕ) → place_of s.locals' n' ≡ place_of s.locals n → (place_of s.locals n ≡ None → place_of s.globals' n' ≡ place_of s.globals n) → Same s Equal (read n) (read n')
  same_read n n' local global = record { runs = λ p p' i. by p p' i _ refl }
    where
      by : (p p' : Place) → SamePlace s p p' → (o : Option JsValue) → value_in p.locals n ≡ o → SameRun s Equal (read n p) (read n' p')
      by p p' i (Some v) e =
          let f : value_in p'.locals n' ≡ Some v = same_value s.locals s.locals' p.locals p'.locals n n' i.locals local ∙ e in
          rw (e, f) (both_go refl i)
      by p p' i None e =
          let f : value_in p'.locals n' ≡ None = same_value s.locals s.locals' p.locals p'.locals n n' i.locals local ∙ e in
          let g : value_in p'.globals n' ≡ value_in p.globals n = same_value s.globals s.globals' p.globals p'.globals n n' i.globals (global (same_missing s.locals s.locals' p.locals p'.locals n i.locals e)) in
          rw (e, f, g) (of_module p p' i (value_in p.globals n))
        where
          of_module : (p p' : Place) → SamePlace s p p' → (o : Option JsValue) → SameRun s Equal (defined o p) (defined o p')
          of_module p p' i None = both_wrong
          of_module p p' i (Some v) = both_go refl i

  pub same_write : (n n' : List ℕ) (v : JsValue) → place_of s.locals' n' ≡ place_of s.locals n → (place_of s.locals n ≡ None → place_of s.globals' n' ≡ place_of s.globals n) → Same s Equal (write n v) (write n' v)
  same_write n n' v local global = record { runs = λ p p' i. by p p' i _ refl }
    where
      of_module : (p p' : Place) → SamePlace s p p' → place_of s.globals' n' ≡ place_of s.globals n → (o : Option JsValue) → SameRun s Equal (written None o n v p) (written None o n' v p')
      of_module p p' i at None = both_wrong
      of_module p p' i at (Some old) =
          both_go refl (record { locals = i.locals; globals = same_written s.globals s.globals' p.globals p'.globals n n' v i.globals at; heap = i.heap; replies = i.replies; events = i.events; units = i.units })

      by : (p p' : Place) → SamePlace s p p' → (o : Option JsValue) → value_in p.locals n ≡ o → SameRun s Equal (write n v p) (write n' v p')
      by p p' i (Some old) e =
          let f : value_in p'.locals n' ≡ Some old = same_value s.locals s.locals' p.locals p'.locals n n' i.locals local ∙ e in
          rw (e, f) (both_go refl (record { locals = same_written s.locals s.locals' p.locals p'.locals n n' v i.locals local; globals = i.globals; heap = i.heap; replies = i.replies; events = i.events; units = i.units }))
      by p p' i None e =
          let f : value_in p'.locals n' ≡ None = same_value s.locals s.locals' p.locals p'.locals n n' i.locals local ∙ e in
          let at = global (same_missing s.locals s.locals' p.locals p'.locals n i.locals e) in
          let g : value_in p'.globals n' ≡ value_in p.globals n = same_value s.globals s.globals' p.globals p'.globals n n' i.globals at in
          rw (e, f, g) (of_module p p' i at (value_in p.globals n))

  -- ---- the heap, imports and events

  pub same_read_element : (m : Meaning) (x : JsValue) → Same s Equal (read_element m x) (read_element m x)
  same_read_element (a_view v) (Whole z) = record { runs = λ p p' i. both_go (ap (λ h. element_value (load (kind_of v) z h)) (sym i.heap)) i }
  same_read_element _ _ = same_wrong

  pub same_write_element : (m : Meaning) (x v : JsValue) → Same s Equal (write_element m x v) (write_element m x v)
  same_write_element (a_view k) (Whole z) v = record { runs = λ p p' i. rw i.heap (both_go refl (record { locals = i.locals; globals = i.globals; heap = refl; replies = i.replies; events = i.events; units = i.units })) }
  same_write_element _ _ v = same_wrong

  pub same_import : (name : List ℕ) (vs : List JsValue) → Same s Equal (call_import name vs) (call_import name vs)
  same_import name vs = record { runs = λ p p' i. subst (λ r. SameRun s Equal (answered (answer_import name (map word vs) p.replies) p) (answered (answer_import name (map word vs) r) p')) (sym i.replies) (by p p' i (answer_import name (map word vs) p.replies)) }
    where
      by : (p p' : Place) → SamePlace s p p' → (a : ImportAnswer) → SameRun s Equal (answered a p) (answered a p')
      by p p' i (ends e) = both_stop e i.events i.heap
      by p p' i (goes_on g) = rw (i.heap, i.events) (both_go refl (record { locals = i.locals; globals = i.globals; heap = refl; replies = refl; events = refl; units = i.units }))

  pub same_event : (e : EventPlain) → Same s Equal (add_event e) (add_event e)
  same_event e = record { runs = λ p p' i. both_go refl (record { locals = i.locals; globals = i.globals; heap = i.heap; replies = i.replies; events = ap (λ es. es ++ e ∷ []) i.events; units = i.units }) }

-- ---- a function's own variables

-- afterwards those from before are back
same_back : (s t : Sides) {A B : Type 0} {R : A → B → Type 0} {r : Run A} {r' : Run B} (bs bs' : List Binding) → SameBindings s.locals s.locals' bs bs' → t.globals ≡ s.globals → t.globals' ≡ s.globals'
    → SameRun t R r r' → SameRun s R (after r (back_to bs)) (after r' (back_to bs'))
same_back s t bs bs' h g g' (both_go {p = p} {p' = p'} k i) =
    both_go k (record { locals = h; globals = subst (λ ns. SameBindings s.globals ns p.globals p'.globals) g' (subst (λ ns. SameBindings ns t.globals' p.globals p'.globals) g i.globals); heap = i.heap; replies = i.replies; events = i.events; units = i.units })
same_back s t bs bs' h g g' (both_stop e events heap) = both_stop e events heap
same_back s t bs bs' h g g' (both_spent events) = both_spent events
same_back s t bs bs' h g g' both_wrong = both_wrong

pub same_locals : (s : Sides) (l l' : List (List ℕ)) {A B : Type 0} {R : A → B → Type 0} {f : Part A} {f' : Part B} (bs bs' : List Binding) → SameBindings l l' bs bs' → Same (record s { locals = l; locals' = l' }) R f f'
    → Same s R (with_locals bs f) (with_locals bs' f')
same_locals s l l' bs bs' h k = record {
  runs = λ p p' i. same_back s (record s { locals = l; locals' = l' }) p.locals p'.locals i.locals refl refl
      (k.runs (record p { locals = bs }) (record p' { locals = bs' }) (record { locals = h; globals = i.globals; heap = i.heap; replies = i.replies; events = i.events; units = i.units }));
}

-- ---- what is seen

pub same_observed : (s : Sides) {r r' : Run (Unit {0})} → SameRun s Equal r r' → observed r' ≡ observed r
same_observed s (both_go e i) = let h = i.events in let g = i.heap in cc
same_observed s (both_stop e events heap) = cc
same_observed s (both_spent events) = cc
same_observed s both_wrong = refl

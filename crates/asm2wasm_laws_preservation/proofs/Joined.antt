-- How pieces of code that keep parts are put together.
use Rattle.std.proofs.Common.{◌≡◌, ℕ, suc, ◌+◌, ◌≤◌, Bool, true, false, List, [], ◌∷◌, ◌++◌, length, Option, Some, None, refl, sym, ap, ◌∙◌, subst, arith, append_assoc}
use Rattle.std.specs.Prelude.{if◌then◌else◌}
use Rattle.sem_words.specs.declared.word.Word.{Word}
use Rattle.sem_words.specs.declared.js_value.JsValue.{JsValue}
use Rattle.wasm_lang.specs.Instructions.{Plain}
use Rattle.wasm_lang_exec.specs.Code.{Trees, ε, ◌⊕◌}
use Rattle.wasm_lang_exec.specs.Store.{Store}
use Rattle.wasm_lang_exec.specs.Reductions.{Code}
use Rattle.wasm_laws_drive.specs.Drive.{Next, at, drive, onward}
use Rattle.wasm_laws_drive.specs.Equations.{is_constant, then_on}
use Rattle.wasm_laws_drive.proofs.Instructions.{no_code}
use Rattle.wasm_laws_trees.specs.Spelled.{size}
use Rattle.asm2wasm_laws_preservation.proofs.Sizes.{sizes_add}
use Rattle.asm_types.specs.declared.value_type.ValueType.{ValueType}
use Rattle.asm_lang_exec.specs.Runs.{Place, Run, goes, stops, spent, wrong, Part, after, and_then, gives, goes_wrong, defined}
use Rattle.asm_lang_exec.specs.Meaning.{in_type, seen}
use Rattle.asm2wasm_translation.specs.Values.{plains}
use Rattle.asm2wasm_laws_run.specs.Sim.{Steps, Ends, Sim}
use Rattle.asm2wasm_laws_run.specs.Straight.{reached, effects, paid}
use Rattle.asm2wasm_laws_run.specs.State.{words, store_of, Holds, EndsAlike, AnyValue, run_from}
use Rattle.asm2wasm_laws_run.proofs.Simulated.{sim_in, sim_more, sim_same, sim_shows}
use Rattle.asm2wasm_laws_run.proofs.Straight.{plains_none, runs}
use Rattle.asm2wasm_laws_run.proofs.Chained.{sim_then}
use Rattle.asm2wasm_laws_preservation.specs.Kept.{word, a_value, Surroundings, Shown, Keeps}

-- no more reductions than instructions
pub paid_all : (ps : List Plain) → paid ps ≤ size (plains ps)
paid_all [] = omega arith
paid_all (p ∷ ps) = by (is_constant p) (paid_all ps)
  where
    by : (b : Bool) → paid ps ≤ size (plains ps) → (if b then paid ps else suc (paid ps)) ≤ 1 + size (plains ps)
    by true rest = omega (arith, rest)
    by false rest = omega (arith, rest)

module _ (s : Surroundings) (limit : ℕ) where
  abbrev ends : Ends
  ends = EndsAlike s.fixed s.home s.heap

  -- ---- one piece after another

  pub keeps_then : {A B : Type 0} (d : ℕ) (from : List Word) (has : A → Type 0) (on : A → List Word) (has_then : B → Type 0) (on_then : B → List Word) (first more : Trees) (part : Part A) (go : A → Part B)
      → Keeps s limit d from has on first part
      → ((a : A) → has a → Keeps s limit d (on a) has_then on_then more (go a))
      → Keeps s limit d from has_then on_then (first ⊕ more) (and_then part go)
  keeps_then {A} {B} d from has on has_then on_then first more part go f g = record { by = begins }
    where
      begins : (p : Place) (scratch stack : List Word) → Holds s.fixed s.home s.heap s.within p → length scratch ≡ s.scratch → p.units ≤ limit
          → Sim s.worth ends (Shown s d has_then on_then scratch stack) (size (first ⊕ more)) p.units (run_from s.target s.fixed (from ++ stack) (first ⊕ more) scratch p) (and_then part go p)
      begins p scratch stack h many few =
          subst (λ z. Sim s.worth ends (Shown s d has_then on_then scratch stack) z p.units (run_from s.target s.fixed (from ++ stack) (first ⊕ more) scratch p) (and_then part go p)) (sym (sizes_add first more))
          (sim_then s.target s.fixed s.worth ends A B (Shown s d has on scratch stack) (Shown s d has_then on_then scratch stack) first more (size first) (size more) p scratch (from ++ stack) (part p) go (f.by p scratch stack h many few) next)
        where
          next : (a : A) (q : Place) (later : Steps) → Shown s d has on scratch stack a q later → q.units ≤ p.units
              → Sim s.worth ends (Shown s d has_then on_then scratch stack) (size more) q.units (λ k. then_on (later k) (onward s.target more)) (go a q)
          next a q later x le =
              sim_same s.worth ends B (Shown s d has_then on_then scratch stack) (size more) q.units (λ k. then_on (later k) (onward s.target more)) (run_from s.target s.fixed (on a ++ stack) more x.scratch_then q) (go a q)
              (λ k. ap (λ r. then_on r (onward s.target more)) (x.shown k))
              (sim_shows s.worth ends B (Shown s d has_then on_then x.scratch_then stack) (Shown s d has_then on_then scratch stack)
              (λ b r end y. record { is = y.is; holds = y.holds; scratch_then = y.scratch_then; as_many = y.as_many ∙ x.as_many; kept = y.kept ∙ x.kept; shown = y.shown })
              (size more) q.units (run_from s.target s.fixed (on a ++ stack) more x.scratch_then q) (go a q)
              ((g a x.is).by q x.scratch_then stack x.holds (x.as_many ∙ many) (omega (arith, le, few))))

  -- less is asked of the result
  pub keeps_weaker : {A : Type 0} (d : ℕ) (from : List Word) (has has_then : A → Type 0) (on : A → List Word) (code : Trees) (part : Part A)
      → ((a : A) → has a → has_then a) → Keeps s limit d from has on code part → Keeps s limit d from has_then on code part
  keeps_weaker {A} d from has has_then on code part f k = record {
    by = λ p scratch stack h many few.
        sim_shows s.worth ends A (Shown s d has on scratch stack) (Shown s d has_then on scratch stack)
        (λ a r end y. record { is = f a y.is; holds = y.holds; scratch_then = y.scratch_then; as_many = y.as_many; kept = y.kept; shown = y.shown })
        (size code) p.units (run_from s.target s.fixed (from ++ stack) code scratch p) (part p) (k.by p scratch stack h many few);
  }

  pub keeps_same : {A : Type 0} (d : ℕ) (from : List Word) (has : A → Type 0) (on : A → List Word) (code : Trees) (part part' : Part A)
      → ((p : Place) → part p ≡ part' p) → Keeps s limit d from has on code part → Keeps s limit d from has on code part'
  keeps_same d from has on code part part' e k = record {
    by = λ p scratch stack h many few.
        subst (λ o. Sim s.worth ends (Shown s d has on scratch stack) (size code) p.units (run_from s.target s.fixed (from ++ stack) code scratch p) o) (e p) (k.by p scratch stack h many few);
  }

  -- words below are left alone
  pub keeps_over : {A : Type 0} (d : ℕ) (below : List Word) (has : A → Type 0) (on : A → List Word) (code : Trees) (part : Part A)
      → Keeps s limit d [] has on code part → Keeps s limit d below has (λ a. on a ++ below) code part
  keeps_over {A} d below has on code part k = record {
    by = λ p scratch stack h many few.
        sim_shows s.worth ends A (Shown s d has on scratch (below ++ stack)) (Shown s d has (λ a. on a ++ below) scratch stack)
        (λ a r end y. record { is = y.is; holds = y.holds; scratch_then = y.scratch_then; as_many = y.as_many; kept = y.kept; shown = λ n. y.shown n ∙ ap (λ vs. Next (at vs (words r.locals ++ y.scratch_then) (store_of s.fixed r) n)) (sym (append_assoc (on a) below stack)) })
        (size code) p.units (run_from s.target s.fixed (below ++ stack) code scratch p) (part p) (k.by p scratch (below ++ stack) h many few);
  }

  -- ---- what has no code of its own

  pub keeps_defined : {A : Type 0} (d : ℕ) (from : List Word) (has : A → Type 0) (on : A → List Word) (code : Trees) (o : Option A)
      → ((a : A) → o ≡ Some a → Keeps s limit d from has on code (gives a)) → Keeps s limit d from has on code (defined o)
  keeps_defined d from has on code None f = record { by = λ p scratch stack h many few. tt }
  keeps_defined d from has on code (Some a) f = record { by = λ p scratch stack h many few. (f a refl).by p scratch stack h many few }

  -- what follows from the operation
  pub keeps_known : {A : Type 0} (d : ℕ) (from : List Word) (has : A → Type 0) (on : A → List Word) (code : Trees) (o : Option A)
      → ((a : A) → o ≡ Some a → has a) → Keeps s limit d from (λ a. Unit {0}) on code (defined o) → Keeps s limit d from has on code (defined o)
  keeps_known d from has on code None f k = record { by = λ p scratch stack h many few. tt }
  keeps_known d from has on code (Some a) f k = record {
    by = λ p scratch stack h many few.
        let x = k.by p scratch stack h many few in
        (x.0, record { is = f a refl; holds = x.1.holds; scratch_then = x.1.scratch_then; as_many = x.1.as_many; kept = x.1.kept; shown = x.1.shown }, x.2);
  }

  seen_shown : (d z n : ℕ) (t : ValueType) (has : JsValue → Type 0) (on : JsValue → List Word) (scratch stack : List Word) (r : Steps) (o : Run JsValue)
      → Sim s.worth ends (Shown s d has on scratch stack) z n r o
      → Sim s.worth ends (Shown s d (λ v. (in_type (Some t) v ≡ true) × has v) on scratch stack) z n r (after o (λ v. if in_type (Some t) v then gives v else goes_wrong))
  seen_shown d z n t has on scratch stack r (goes v p) x = by (in_type (Some t) v) refl
    where
      by : (b : Bool) → in_type (Some t) v ≡ b → Sim s.worth ends (Shown s d (λ v. (in_type (Some t) v ≡ true) × has v) on scratch stack) z n r ((if b then gives v else goes_wrong) p)
      by false e = tt
      by true e = (x.0, record { is = (e, x.1.is); holds = x.1.holds; scratch_then = x.1.scratch_then; as_many = x.1.as_many; kept = x.1.kept; shown = x.1.shown }, x.2)
  seen_shown d z n t has on scratch stack r (stops e p) x = x
  seen_shown d z n t has on scratch stack r (spent p) x = x
  seen_shown d z n t has on scratch stack r wrong x = tt

  -- a value of an expression with a type is one of it, or the run is wrong
  pub keeps_seen : (d : ℕ) (from : List Word) (t : ValueType) (o : Option ValueType) (has : JsValue → Type 0) (on : JsValue → List Word) (code : Trees) (part : Part JsValue)
      → o ≡ Some t → Keeps s limit d from has on code part → Keeps s limit d from (λ v. (in_type (Some t) v ≡ true) × has v) on code (seen true o part)
  keeps_seen d from t o has on code part e k =
      subst (λ o. Keeps s limit d from (λ v. (in_type (Some t) v ≡ true) × has v) on code (seen true o part)) (sym e)
      (record { by = λ p scratch stack h many few. seen_shown d (size code) p.units t has on scratch stack (run_from s.target s.fixed (from ++ stack) code scratch p) (part p) (k.by p scratch stack h many few) })

  -- no code at all
  pub keeps_none : {A : Type 0} (d : ℕ) (has : A → Type 0) (on : A → List Word) (a : A) → has a → Keeps s limit d (on a) has on ε (gives a)
  keeps_none {A} d has on a is = record {
    by = λ p scratch stack h many few.
        sim_in s.worth ends A (Shown s d has on scratch stack) 0 a p (run_from s.target s.fixed (on a ++ stack) ε scratch p)
        (λ k. Next (at (on a ++ stack) (words p.locals ++ scratch) (store_of s.fixed p) k))
        (record { is = is; holds = h; scratch_then = scratch; as_many = refl; kept = refl; shown = λ k. refl })
        (λ k. let e : 0 + k ≡ k = omega arith in ap (run_from s.target s.fixed (on a ++ stack) ε scratch p) e ∙ no_code s.target (at (on a ++ stack) (words p.locals ++ scratch) (store_of s.fixed p) k));
  }

  mapped_shown : (d z n : ℕ) (has : JsValue → Type 0) (scratch stack : List Word) (r : Steps) (o : Run JsValue) (f : JsValue → Option JsValue)
      → ((v x : JsValue) → has v → f v ≡ Some x → word v ≡ word x)
      → Sim s.worth ends (Shown s d has a_value scratch stack) z n r o
      → Sim s.worth ends (Shown s d AnyValue a_value scratch stack) z n r (after o (λ v. defined (f v)))
  mapped_shown d z n has scratch stack r (goes v p) f same x = by (f v) refl
    where
      by : (o : Option JsValue) → f v ≡ o → Sim s.worth ends (Shown s d AnyValue a_value scratch stack) z n r (defined o p)
      by None e = tt
      by (Some y) e = (x.0, record { is = tt; holds = x.1.holds; scratch_then = x.1.scratch_then; as_many = x.1.as_many; kept = x.1.kept; shown = λ k. x.1.shown k ∙ ap (λ w. Next (at (w ∷ stack) (words p.locals ++ x.1.scratch_then) (store_of s.fixed p) k)) (same v y x.1.is e) }, x.2)
  mapped_shown d z n has scratch stack r (stops e p) f same x = x
  mapped_shown d z n has scratch stack r (spent p) f same x = x
  mapped_shown d z n has scratch stack r wrong f same x = tt

  -- an operation that leaves the word as it is
  pub keeps_mapped : (d : ℕ) (has : JsValue → Type 0) (code : Trees) (part : Part JsValue) (f : JsValue → Option JsValue)
      → ((v x : JsValue) → has v → f v ≡ Some x → word v ≡ word x)
      → Keeps s limit d [] has a_value code part → Keeps s limit d [] AnyValue a_value code (and_then part (λ v. defined (f v)))
  keeps_mapped d has code part f same k = record {
    by = λ p scratch stack h many few. mapped_shown d (size code) p.units has scratch stack (run_from s.target s.fixed stack code scratch p) (part p) f same (k.by p scratch stack h many few);
  }

  gives_shown : {A B : Type 0} (d z n : ℕ) (has : A → Type 0) (on : A → List Word) (has_then : B → Type 0) (on_then : B → List Word) (scratch stack : List Word) (r : Steps) (o : Run A) (f : A → B)
      → ((a : A) → has a → has_then (f a)) → ((a : A) → on a ≡ on_then (f a))
      → Sim s.worth ends (Shown s d has on scratch stack) z n r o
      → Sim s.worth ends (Shown s d has_then on_then scratch stack) z n r (after o (λ a. gives (f a)))
  gives_shown d z n has on has_then on_then scratch stack r (goes a p) f is same x =
      (x.0, record { is = is a x.1.is; holds = x.1.holds; scratch_then = x.1.scratch_then; as_many = x.1.as_many; kept = x.1.kept; shown = λ k. x.1.shown k ∙ ap (λ ws. Next (at (ws ++ stack) (words p.locals ++ x.1.scratch_then) (store_of s.fixed p) k)) (same a) }, x.2)
  gives_shown d z n has on has_then on_then scratch stack r (stops e p) f is same x = x
  gives_shown d z n has on has_then on_then scratch stack r (spent p) f is same x = x
  gives_shown d z n has on has_then on_then scratch stack r wrong f is same x = tt

  -- another result with the same words
  pub keeps_gives : {A B : Type 0} (d : ℕ) (from : List Word) (has : A → Type 0) (on : A → List Word) (has_then : B → Type 0) (on_then : B → List Word) (code : Trees) (part : Part A) (f : A → B)
      → ((a : A) → has a → has_then (f a)) → ((a : A) → on a ≡ on_then (f a))
      → Keeps s limit d from has on code part → Keeps s limit d from has_then on_then code (and_then part (λ a. gives (f a)))
  keeps_gives d from has on has_then on_then code part f is same k = record {
    by = λ p scratch stack h many few. gives_shown d (size code) p.units has on has_then on_then scratch stack (run_from s.target s.fixed (from ++ stack) code scratch p) (part p) f is same (k.by p scratch stack h many few);
  }

  -- ---- plain instructions

  -- those that change the place and the stack alone
  pub keeps_plains : {A : Type 0} (d : ℕ) (from : List Word) (has : A → Type 0) (on : A → List Word) (ps : List Plain) (a : A) (to : Place → Place)
      → has a → ((p : Place) → (to p).units ≡ p.units) → ((p : Place) → Holds s.fixed s.home s.heap s.within p → Holds s.fixed s.home s.heap s.within (to p))
      → ((p : Place) (scratch stack : List Word) → Holds s.fixed s.home s.heap s.within p
      → effects ps (from ++ stack) (words p.locals ++ scratch) (store_of s.fixed p) ≡ Some (reached (on a ++ stack) (words (to p).locals ++ scratch) (store_of s.fixed (to p))))
      → Keeps s limit d from has on (plains ps) (λ p. goes a (to p))
  keeps_plains {A} d from has on ps a to is same holds does = record { by = begins }
    where
      begins : (p : Place) (scratch stack : List Word) → Holds s.fixed s.home s.heap s.within p → length scratch ≡ s.scratch → p.units ≤ limit
          → Sim s.worth ends (Shown s d has on scratch stack) (size (plains ps)) p.units (run_from s.target s.fixed (from ++ stack) (plains ps) scratch p) (goes a (to p))
      begins p scratch stack h many few =
          let r = run_from s.target s.fixed (from ++ stack) (plains ps) scratch p in
          subst (λ n. Sim s.worth ends (Shown s d has on scratch stack) (size (plains ps)) n r (goes a (to p))) (same p)
          (sim_more s.worth ends A (Shown s d has on scratch stack) (paid ps) (size (plains ps)) (to p).units r (goes a (to p)) (paid_all ps)
          (sim_in s.worth ends A (Shown s d has on scratch stack) (paid ps) a (to p) r (λ k. Next (at (on a ++ stack) (words (to p).locals ++ scratch) (store_of s.fixed (to p)) k))
          (record { is = is; holds = holds p h; scratch_then = scratch; as_many = refl; kept = refl; shown = λ k. refl })
          (λ k. ap (λ t. drive s.target (paid ps + k) (Code (from ++ stack) t) (words p.locals ++ scratch) (store_of s.fixed p)) (sym (plains_none ps))
          ∙ runs s.target ps (from ++ stack) (words p.locals ++ scratch) (store_of s.fixed p) (reached (on a ++ stack) (words (to p).locals ++ scratch) (store_of s.fixed (to p))) ε k (does p scratch stack h)
          ∙ no_code s.target (at (on a ++ stack) (words (to p).locals ++ scratch) (store_of s.fixed (to p)) k))))

  -- those that change the stack alone
  pub keeps_operation : {A : Type 0} (d : ℕ) (from : List Word) (has : A → Type 0) (on : A → List Word) (ps : List Plain) (a : A)
      → has a → ((stack locals : List Word) (store : Store) → effects ps (from ++ stack) locals store ≡ Some (reached (on a ++ stack) locals store))
      → Keeps s limit d from has on (plains ps) (gives a)
  keeps_operation d from has on ps a is does =
      keeps_plains d from has on ps a (λ p. p) is (λ p. refl) (λ p h. h) (λ p scratch stack h. does stack (words p.locals ++ scratch) (store_of s.fixed p))

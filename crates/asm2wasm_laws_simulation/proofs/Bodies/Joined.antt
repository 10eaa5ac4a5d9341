-- How courses of code are put together.
use Rattle.std.proofs.Common.{◌≡◌, ℕ, ◌+◌, ◌≤◌, List, [], ◌++◌, length, refl, ap, ◌∙◌, subst, arith}
use Rattle.sem_words.specs.declared.word.Word.{Word}
use Rattle.wasm_lang_exec.specs.Code.{Trees, ◌⊕◌}
use Rattle.wasm_lang_exec.specs.Store.{Store}
use Rattle.wasm_laws_drive.specs.Drive.{Outcome, Next, at, onward}
use Rattle.wasm_laws_drive.specs.Equations.{then_on}
use Rattle.wasm_laws_drive.proofs.Sequences.{sequence}
use Rattle.wasm_laws_trees.specs.Spelled.{size}
use Rattle.asm_lang_exec.specs.Runs.{Place, Run, goes, stops, spent, wrong, Part, after, and_then, gives}
use Rattle.asm2wasm_laws_run.specs.Sim.{Steps, Ends, Sim}
use Rattle.asm2wasm_laws_run.specs.Sim as sims
use Rattle.asm2wasm_laws_run.specs.State.{words, store_of, Holds, EndsAlike, run_from}
use Rattle.asm2wasm_laws_run.proofs.Simulated.{comes_in, sim_after, sim_now, sim_more, sim_same, sim_shows, sim_bind}
use Rattle.asm2wasm_laws_run.proofs.Chained.{code_keeps}
use Rattle.asm2wasm_laws_preservation.specs.Kept.{Surroundings, Shown, Keeps}
use Rattle.asm2wasm_laws_simulation.specs.Bodies.Followed.{Course, on_code, Arrived, Follows}

pub after_gives : {A : Type 0} → (o : Run A) → after o gives ≡ o
after_gives (goes a p) = refl
after_gives (stops e p) = refl
after_gives (spent p) = refl
after_gives wrong = refl

module _ (s : Surroundings) (limit : ℕ) where
  abbrev pub ends : Ends
  ends = EndsAlike s.fixed s.home s.heap

  -- a part, and then what its result leads to, in surroundings of the code
  pub follows_bind : {A B : Type 0} (around : Outcome → Outcome) (z1 z2 : ℕ) (course : Course) (has : A → Type 0) (on : A → Course) (has_then : B → Type 0) (on_then : B → Course) (part : Part A) (go : A → Part B)
      → sims.Keeps around → Follows s limit z1 course has on part
      → ((a : A) → has a → Follows s limit z2 (λ l st k. around (on a l st k)) has_then on_then (go a))
      → Follows s limit (z1 + z2) (λ l st k. around (course l st k)) has_then on_then (and_then part go)
  follows_bind {A} {B} around z1 z2 course has on has_then on_then part go keeps f g = record { by = begins }
    where
      begins : (p : Place) (scratch : List Word) → Holds s.fixed s.home s.heap s.within p → length scratch ≡ s.scratch → p.units ≤ limit
          → Sim s.worth ends (Arrived s has_then on_then scratch) (z1 + z2) p.units (λ k. around (course (words p.locals ++ scratch) (store_of s.fixed p) k)) (and_then part go p)
      begins p scratch h many few =
          sim_bind s.worth ends A B (Arrived s has on scratch) (Arrived s has_then on_then scratch) around z1 z2 p.units (course (words p.locals ++ scratch) (store_of s.fixed p)) (part p) go keeps (f.by p scratch h many few) next
        where
          next : (a : A) (q : Place) (later : Steps) → Arrived s has on scratch a q later → q.units ≤ p.units
              → Sim s.worth ends (Arrived s has_then on_then scratch) z2 q.units (λ k. around (later k)) (go a q)
          next a q later x le =
              sim_same s.worth ends B (Arrived s has_then on_then scratch) z2 q.units (λ k. around (later k)) (λ k. around (on a (words q.locals ++ x.scratch_then) (store_of s.fixed q) k)) (go a q)
              (λ k. ap around (x.shown k))
              (sim_shows s.worth ends B (Arrived s has_then on_then x.scratch_then) (Arrived s has_then on_then scratch)
              (λ b r end y. record { is = y.is; holds = y.holds; scratch_then = y.scratch_then; as_many = y.as_many ∙ x.as_many; shown = y.shown })
              z2 q.units (λ k. around (on a (words q.locals ++ x.scratch_then) (store_of s.fixed q) k)) (go a q)
              ((g a x.is).by q x.scratch_then x.holds (x.as_many ∙ many) (omega (arith, le, few))))

  module _ {A : Type 0} (has : A → Type 0) (on : A → Course) where
    -- reductions before a part
    pub follows_in : (c z : ℕ) (course later : Course) (part : Part A) → ((l : List Word) (st : Store) (k : ℕ) → course l st (c + k) ≡ later l st k)
        → Follows s limit z later has on part → Follows s limit (c + z) course has on part
    follows_in c z course later part e f = record {
      by = λ p scratch h many few.
          let r = course (words p.locals ++ scratch) (store_of s.fixed p) in
          let r' = later (words p.locals ++ scratch) (store_of s.fixed p) in
          sim_after s.worth ends A (Arrived s has on scratch) c z p.units p.units r r' (part p)
          (comes_in s.worth c p.units r r' (λ k. e (words p.locals ++ scratch) (store_of s.fixed p) k)) (f.by p scratch h many few);
    }

    pub follows_more : (z z' : ℕ) (course : Course) (part : Part A) → z ≤ z' → Follows s limit z course has on part → Follows s limit z' course has on part
    follows_more z z' course part le f = record {
      by = λ p scratch h many few. sim_more s.worth ends A (Arrived s has on scratch) z z' p.units (course (words p.locals ++ scratch) (store_of s.fixed p)) (part p) le (f.by p scratch h many few);
    }

    pub follows_same : (z : ℕ) (course later : Course) (part : Part A) → ((l : List Word) (st : Store) (k : ℕ) → course l st k ≡ later l st k)
        → Follows s limit z later has on part → Follows s limit z course has on part
    follows_same z course later part e f = record {
      by = λ p scratch h many few.
          sim_same s.worth ends A (Arrived s has on scratch) z p.units (course (words p.locals ++ scratch) (store_of s.fixed p)) (later (words p.locals ++ scratch) (store_of s.fixed p)) (part p)
          (λ k. e (words p.locals ++ scratch) (store_of s.fixed p) k) (f.by p scratch h many few);
    }

    pub follows_part : (z : ℕ) (course : Course) (part part' : Part A) → ((p : Place) → part p ≡ part' p) → Follows s limit z course has on part → Follows s limit z course has on part'
    follows_part z course part part' e f = record {
      by = λ p scratch h many few. subst (λ o. Sim s.worth ends (Arrived s has on scratch) z p.units (course (words p.locals ++ scratch) (store_of s.fixed p)) o) (e p) (f.by p scratch h many few);
    }

    -- fewer units
    pub follows_limit : (lower z : ℕ) (course : Course) (part : Part A) → lower ≤ limit → Follows s limit z course has on part → Follows s lower z course has on part
    follows_limit lower z course part le f = record { by = λ p scratch h many few. f.by p scratch h many (omega (arith, few, le)) }

    pub follows_now : (course : Course) (a : A) → has a → ((l : List Word) (st : Store) (k : ℕ) → course l st k ≡ on a l st k) → Follows s limit 0 course has on (gives a)
    follows_now course a is e = record {
      by = λ p scratch h many few.
          sim_now s.worth ends A (Arrived s has on scratch) a p (course (words p.locals ++ scratch) (store_of s.fixed p)) (on a (words p.locals ++ scratch) (store_of s.fixed p))
          (record { is = is; holds = h; scratch_then = scratch; as_many = refl; shown = λ k. refl })
          (λ k. e (words p.locals ++ scratch) (store_of s.fixed p) k);
    }

    -- in so many reductions, of which there may be more
    pub follows_soon : (c z : ℕ) (course : Course) (a : A) → c ≤ z → has a → ((l : List Word) (st : Store) (k : ℕ) → course l st (c + k) ≡ on a l st k) → Follows s limit z course has on (gives a)
    follows_soon c z course a le is e =
        follows_more (c + 0) z course (gives a) (omega (arith, le)) (follows_in c 0 course (on a) (gives a) e (follows_now (on a) a is (λ l st k. refl)))

  -- ---- code, and then more code

  pub follows_then : {A B : Type 0} (z1 z2 : ℕ) (from : List Word) (first more : Trees) (has : A → Type 0) (on : A → Course) (has_then : B → Type 0) (on_then : B → Course) (part : Part A) (go : A → Part B)
      → Follows s limit z1 (on_code s.target from first) has on part
      → ((a : A) → has a → Follows s limit z2 (λ l st k. then_on (on a l st k) (onward s.target more)) has_then on_then (go a))
      → Follows s limit (z1 + z2) (on_code s.target from (first ⊕ more)) has_then on_then (and_then part go)
  follows_then z1 z2 from first more has on has_then on_then part go f g =
      follows_same has_then on_then (z1 + z2) (on_code s.target from (first ⊕ more)) (λ l st k. then_on (on_code s.target from first l st k) (onward s.target more)) (and_then part go)
      (λ l st k. sequence s.target first more (at from l st k))
      (follows_bind (λ r. then_on r (onward s.target more)) z1 z2 (on_code s.target from first) has on has_then on_then part go (code_keeps s.target more) f g)

  -- the code of an expression, with what its value leaves on the stack
  pub follows_kept : {A : Type 0} (has : A → Type 0) (on : A → List Word) (code : Trees) (part : Part A) → Keeps s limit 0 [] has on code part
      → Follows s limit (size code) (on_code s.target [] code) has (λ a l st k. Next (at (on a ++ []) l st k)) part
  follows_kept {A} has on code part f = record {
    by = λ p scratch h many few.
        sim_shows s.worth ends A (Shown s 0 has on scratch []) (Arrived s has (λ a l st k. Next (at (on a ++ []) l st k)) scratch)
        (λ a q later x. record { is = x.is; holds = x.holds; scratch_then = x.scratch_then; as_many = x.as_many; shown = x.shown })
        (size code) p.units (run_from s.target s.fixed [] code scratch p) (part p) (f.by p scratch [] h many few);
  }

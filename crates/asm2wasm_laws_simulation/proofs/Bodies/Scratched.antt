-- A scratch local that code sets, and what it does with its value.
use Rattle.std.proofs.Common.{◌≡◌, ℕ, ◌+◌, ◌<◌, ◌≤◌, List, [], ◌∷◌, ◌++◌, length, Some, sym, ap, ◌∙◌, arith}
use Rattle.std.specs.Prelude.{slice_get, slice_set}
use Rattle.std.proofs.lemmas.List.{length-set}
use Rattle.sem_words.specs.declared.word.Word.{Word}
use Rattle.wasm_lang.specs.Instructions.{local_set}
use Rattle.wasm_lang_exec.specs.Code.{Trees, ◌⊕◌}
use Rattle.wasm_lang_exec.specs.Store.{Store}
use Rattle.wasm_lang_exec.specs.Plain.{with_local}
use Rattle.wasm_laws_drive.specs.Drive.{Outcome}
use Rattle.asm_lang_exec.specs.Runs.{Place, Part, gives}
use Rattle.asm2wasm_translation.specs.Numbers.{first_scratch}
use Rattle.asm2wasm_translation.specs.Values.{one}
use Rattle.asm2wasm_laws_run.specs.Straight.{reached, on_from, effects}
use Rattle.asm2wasm_laws_run.specs.State.{words, store_of, Holds}
use Rattle.asm2wasm_laws_run.proofs.Simulated.{comes_in, sim_after, sim_in, sim_more, sim_same, sim_shows}
use Rattle.asm2wasm_laws_run.proofs.Straight.{runs}
use Rattle.asm2wasm_laws_run.proofs.Chained.{get_past, set_past, is_there, locals_length}
use Rattle.asm2wasm_laws_run.proofs.Guarded.{get_same}
use Rattle.asm2wasm_laws_preservation.specs.Kept.{Surroundings}
use Rattle.asm2wasm_laws_simulation.specs.Bodies.Followed.{Course, on_code, Arrived, Follows}
use Rattle.asm2wasm_laws_simulation.proofs.Bodies.Joined.{ends}

-- code comes to this, in no more reductions than are given
pub record Reaches (most : ℕ) (from to : ℕ → Outcome) : Type 0 where
  pub cost : ℕ
  pub few : cost ≤ most
  pub by : (k : ℕ) → from (cost + k) ≡ to k

module _ (s : Surroundings) (limit i place : ℕ) (is : first_scratch s.within + i ≡ place) (free : i < s.scratch) where
  pub there : (p : Place) (scratch : List Word) → Holds s.fixed s.home s.heap s.within p → length scratch ≡ s.scratch → (old : Word) × (slice_get (words p.locals ++ scratch) place ≡ Some old)
  there p scratch h many =
      let n = locals_length s.within p.locals h.locals in
      let x = is_there scratch i (omega (arith, free, many)) in
      (x.0, ap (slice_get (words p.locals ++ scratch)) (sym is) ∙ ap (λ n. slice_get (words p.locals ++ scratch) (n + i)) (sym n) ∙ get_past (words p.locals) scratch i ∙ x.1)

  then_set : (p : Place) (scratch : List Word) (v : Word) → Holds s.fixed s.home s.heap s.within p → slice_set (words p.locals ++ scratch) place v ≡ words p.locals ++ slice_set scratch i v
  then_set p scratch v h =
      let n = locals_length s.within p.locals h.locals in
      ap (λ x. slice_set (words p.locals ++ scratch) x v) (sym is) ∙ ap (λ n. slice_set (words p.locals ++ scratch) (n + i) v) (sym n) ∙ set_past (words p.locals) scratch i v

  module _ {A : Type 0} (has : A → Type 0) (on : A → Course) where
    -- reductions for which there has to be such a local
    pub follows_known : (most z : ℕ) (course later : Course) (part : Part A)
        → ((l : List Word) (st : Store) (old : Word) → slice_get l place ≡ Some old → Reaches most (course l st) (later l st))
        → Follows s limit z later has on part → Follows s limit (most + z) course has on part
    follows_known most z course later part e f = record {
      by = λ p scratch h many few.
          let old = there p scratch h many in
          let r = course (words p.locals ++ scratch) (store_of s.fixed p) in
          let r' = later (words p.locals ++ scratch) (store_of s.fixed p) in
          let x = e (words p.locals ++ scratch) (store_of s.fixed p) old.0 old.1 in
          sim_more s.worth (ends s limit) A (Arrived s has on scratch) (x.cost + z) (most + z) p.units r (part p) (let le = x.few in omega (arith, le))
          (sim_after s.worth (ends s limit) A (Arrived s has on scratch) x.cost z p.units p.units r r' (part p) (comes_in s.worth x.cost p.units r r' x.by) (f.by p scratch h many few));
    }

    -- the value of a scratch local is of no use
    pub follows_any : (z : ℕ) (v : Word) (course : Course) (part : Part A) → Follows s limit z course has on part → Follows s limit z (λ l st k. course (slice_set l place v) st k) has on part
    follows_any z v course part f = record {
      by = λ p scratch h many few.
          let l = words p.locals ++ scratch in
          let l' = words p.locals ++ slice_set scratch i v in
          let st = store_of s.fixed p in
          let n = length-set scratch i v in
          sim_same s.worth (ends s limit) A (Arrived s has on scratch) z p.units (course (slice_set l place v) st) (course l' st) (part p) (λ k. ap (λ l. course l st k) (then_set p scratch v h))
          (sim_shows s.worth (ends s limit) A (Arrived s has on (slice_set scratch i v)) (Arrived s has on scratch)
          (λ b r end y. record { is = y.is; holds = y.holds; scratch_then = y.scratch_then; as_many = y.as_many ∙ n; shown = y.shown })
          z p.units (course l' st) (part p) (f.by p (slice_set scratch i v) h (n ∙ many) few));
    }

    -- what comes of code where it is set
    pub follows_preset : (z : ℕ) (v : Word) (course : Course) (a : A) → has a
        → ((l : List Word) (st : Store) → slice_get l place ≡ Some v → Reaches z (course l st) (on a l st))
        → Follows s limit z (λ l st k. course (slice_set l place v) st k) has on (gives a)
    follows_preset z v course a is f = record {
      by = λ p scratch h many few.
          let old = there p scratch h many in
          let l = words p.locals ++ scratch in
          let st = store_of s.fixed p in
          let x = f (slice_set l place v) st (get_same l place old.0 v old.1) in
          sim_more s.worth (ends s limit) A (Arrived s has on scratch) x.cost z p.units (course (slice_set l place v) st) (gives a p) x.few
          (sim_in s.worth (ends s limit) A (Arrived s has on scratch) x.cost a p (course (slice_set l place v) st) (on a (slice_set l place v) st)
          (record { is = is; holds = h; scratch_then = slice_set scratch i v; as_many = length-set scratch i v; shown = λ k. ap (λ l. on a l st k) (then_set p scratch v h) })
          x.by);
    }

    -- one instruction sets it
    pub follows_set : (z : ℕ) (v : Word) (more : Trees) (part : Part A)
        → Follows s limit z (λ l st k. on_code s.target [] more (slice_set l place v) st k) has on part
        → Follows s limit (1 + z) (on_code s.target (v ∷ []) (one (local_set place) ⊕ more)) has on part
    follows_set z v more part f =
        follows_known 1 z (on_code s.target (v ∷ []) (one (local_set place) ⊕ more)) (λ l st k. on_code s.target [] more (slice_set l place v) st k) part
        (λ l st old got. record {
          cost = 1;
          few = omega arith;
          by = λ k. runs s.target (local_set place ∷ []) (v ∷ []) l st (reached [] (slice_set l place v) st) more k (ap (λ o. on_from (with_local place v [] o l st) (effects [])) got);
        }) f

-- reductions for which there have to be two such locals
pub follows_both : {A : Type 0} (s : Surroundings) (limit t number : ℕ) → first_scratch s.within + 0 ≡ t → first_scratch s.within + 1 ≡ number → 1 < s.scratch
    → (has : A → Type 0) (on : A → Course) (most z : ℕ) (course later : Course) (part : Part A)
    → ((l : List Word) (st : Store) (old old' : Word) → slice_get l t ≡ Some old → slice_get l number ≡ Some old' → Reaches most (course l st) (later l st))
    → Follows s limit z later has on part → Follows s limit (most + z) course has on part
follows_both {A} s limit t number is is' free has on most z course later part e f = record {
  by = λ p scratch h many few.
      let old = there s limit 0 t is (omega (arith, free)) p scratch h many in
      let old' = there s limit 1 number is' free p scratch h many in
      let r = course (words p.locals ++ scratch) (store_of s.fixed p) in
      let r' = later (words p.locals ++ scratch) (store_of s.fixed p) in
      let x = e (words p.locals ++ scratch) (store_of s.fixed p) old.0 old'.0 old.1 old'.1 in
      sim_more s.worth (ends s limit) A (Arrived s has on scratch) (x.cost + z) (most + z) p.units r (part p) (let le = x.few in omega (arith, le))
      (sim_after s.worth (ends s limit) A (Arrived s has on scratch) x.cost z p.units p.units r r' (part p) (comes_in s.worth x.cost p.units r r' x.by) (f.by p scratch h many few));
}

-- How simulations are put together. Neither language is known here.
use Rattle.std.proofs.Common.{◌≡◌, ℕ, suc, ◌+◌, ◌*◌, ◌≤◌, List, map, ap, ◌∙◌, subst, arith}
use Rattle.session_lang.specs.Observation.{EventPlain}
use Rattle.session_lang.specs.CallingForms.{event_to_wasm}
use Rattle.wasm_laws_drive.specs.Drive.{Outcome, Ended}
use Rattle.asm_lang_exec.specs.Runs.{Place, Run, goes, stops, spent, wrong, Part, after}
use Rattle.asm2wasm_laws_run.specs.Sim.{Steps, Comes, Halts, Ends, Shows, Sim, Keeps}

module _ (worth : ℕ) where
  -- ---- reductions alone

  pub comes_now : (n : ℕ) (r later : Steps) → ((k : ℕ) → r k ≡ later k) → Comes worth 0 n r n later
  comes_now n r later e = record {
    cost = 0;
    used = 0;
    units = omega arith;
    no_fewer = omega arith;
    no_more = omega arith;
    by = λ k. let s : 0 + k ≡ k = omega arith in ap r s ∙ e k;
  }

  -- so many reductions
  pub comes_in : (c n : ℕ) (r later : Steps) → ((k : ℕ) → r (c + k) ≡ later k) → Comes worth c n r n later
  comes_in c n r later e = record { cost = c; used = 0; units = omega arith; no_fewer = omega arith; no_more = omega arith; by = e }

  pub comes_more : (z z' n left : ℕ) (r later : Steps) → z ≤ z' → Comes worth z n r left later → Comes worth z' n r left later
  comes_more z z' n left r later le c = record {
    cost = c.cost;
    used = c.used;
    units = c.units;
    no_fewer = c.no_fewer;
    no_more = let h = c.no_more in omega (arith, h, le);
    by = c.by;
  }

  pub comes_trans : (z1 z2 n n1 n2 : ℕ) (r r1 r2 : Steps) → Comes worth z1 n r n1 r1 → Comes worth z2 n1 r1 n2 r2 → Comes worth (z1 + z2) n r n2 r2
  comes_trans z1 z2 n n1 n2 r r1 r2 a b = record {
    cost = a.cost + b.cost;
    used = a.used + b.used;
    units = omega (arith, a.units, b.units);
    no_fewer = omega (arith, a.no_fewer, b.no_fewer);
    no_more = omega (arith, a.no_more, b.no_more);
    by = λ k. let s : a.cost + b.cost + k ≡ a.cost + (b.cost + k) = omega arith in ap r s ∙ a.by (b.cost + k) ∙ b.by k;
  }

  pub halts_after : (z1 z2 n n1 : ℕ) (r r1 : Steps) (events : List EventPlain) → Comes worth z1 n r n1 r1 → Halts worth z2 n1 r1 events → Halts worth (z1 + z2) n r events
  halts_after z1 z2 n n1 r r1 events a b =
      let all : worth * (a.used + n1) ≡ worth * n = ap (λ x. worth * x) a.units in
      record {
        cost = a.cost + b.cost;
        store = b.store;
        no_fewer = omega (arith, a.units, a.no_fewer, b.no_fewer);
        no_more = omega (arith, all, a.no_more, b.no_more);
        by = a.by b.cost ∙ b.by;
        seen = b.seen;
      }

  pub comes_in_surroundings : (around : Outcome → Outcome) (z n left : ℕ) (r later : Steps) → Comes worth z n r left later → Comes worth z n (λ m. around (r m)) left (λ k. around (later k))
  comes_in_surroundings around z n left r later c = record { cost = c.cost; used = c.used; units = c.units; no_fewer = c.no_fewer; no_more = c.no_more; by = λ k. ap around (c.by k) }

  -- a reduction for a unit, which pays for those up to the next
  pub comes_unit : (z z' n left : ℕ) (r r1 later : Steps) → suc z ≤ z' + worth → ((k : ℕ) → r (suc k) ≡ r1 k) → Comes worth z n r1 left later → Comes worth z' (suc n) r left later
  comes_unit z z' n left r r1 later le e c = record {
    cost = suc c.cost;
    used = suc c.used;
    units = let u = c.units in omega (arith, u);
    no_fewer = let h = c.no_fewer in omega (arith, h);
    no_more = let h = c.no_more in omega (arith, h, le);
    by = λ k. let s : suc c.cost + k ≡ suc (c.cost + k) = omega arith in ap r s ∙ e (c.cost + k) ∙ c.by k;
  }

  -- ---- runs

  module _ (ends : Ends) where
    module _ (A : Type 0) (shows : Shows A) where
      -- reductions before a part
      pub sim_after : (z1 z2 n n1 : ℕ) (r r1 : Steps) (o : Run A) → Comes worth z1 n r n1 r1 → Sim worth ends shows z2 n1 r1 o → Sim worth ends shows (z1 + z2) n r o
      sim_after z1 z2 n n1 r r1 (goes a p) c s = (s.0, s.1, comes_trans z1 z2 n n1 p.units r r1 s.0 c s.2)
      sim_after z1 z2 n n1 r r1 (stops e p) c s = (s.0, s.1, s.2, s.3, comes_trans z1 z2 n n1 s.3 r r1 (λ k. Ended s.0 s.1) c s.4)
      sim_after z1 z2 n n1 r r1 (spent p) c s = halts_after z1 z2 n n1 r r1 (map event_to_wasm p.events) c s
      sim_after z1 z2 n n1 r r1 wrong c s = tt

      pub sim_more : (z z' n : ℕ) (r : Steps) (o : Run A) → z ≤ z' → Sim worth ends shows z n r o → Sim worth ends shows z' n r o
      sim_more z z' n r (goes a p) le s = (s.0, s.1, comes_more z z' n p.units r s.0 le s.2)
      sim_more z z' n r (stops e p) le s = (s.0, s.1, s.2, s.3, comes_more z z' n s.3 r (λ k. Ended s.0 s.1) le s.4)
      sim_more z z' n r (spent p) le s = record { cost = s.cost; store = s.store; no_fewer = s.no_fewer; no_more = let h = s.no_more in omega (arith, h, le); by = s.by; seen = s.seen }
      sim_more z z' n r wrong le s = tt

      pub sim_same : (z n : ℕ) (r r' : Steps) (o : Run A) → ((k : ℕ) → r k ≡ r' k) → Sim worth ends shows z n r' o → Sim worth ends shows z n r o
      sim_same z n r r' o e s =
          let none : 0 + z ≡ z = omega arith in
          subst (λ x. Sim worth ends shows x n r o) none (sim_after 0 z n n r r' o (comes_now n r r' e) s)

      -- what is wanted is shown at once, and after so many reductions
      pub sim_now : (a : A) (p : Place) (r later : Steps) → shows a p later → ((k : ℕ) → r k ≡ later k) → Sim worth ends shows 0 p.units r (goes a p)
      sim_now a p r later h e = (later, h, comes_now p.units r later e)

      pub sim_in : (c : ℕ) (a : A) (p : Place) (r later : Steps) → shows a p later → ((k : ℕ) → r (c + k) ≡ later k) → Sim worth ends shows c p.units r (goes a p)
      sim_in c a p r later h e = (later, h, comes_in c p.units r later e)

      pub sim_unit : (z z' n : ℕ) (r r1 : Steps) (o : Run A) → suc z ≤ z' + worth → ((k : ℕ) → r (suc k) ≡ r1 k) → Sim worth ends shows z n r1 o → Sim worth ends shows z' (suc n) r o
      sim_unit z z' n r r1 (goes a p) le e s = (s.0, s.1, comes_unit z z' n p.units r r1 s.0 le e s.2)
      sim_unit z z' n r r1 (stops end p) le e s = (s.0, s.1, s.2, s.3, comes_unit z z' n s.3 r r1 (λ k. Ended s.0 s.1) le e s.4)
      sim_unit z z' n r r1 (spent p) le e s = record {
        cost = suc s.cost;
        store = s.store;
        no_fewer = let h = s.no_fewer in omega (arith, h);
        no_more = let h = s.no_more in omega (arith, h, le);
        by = e s.cost ∙ s.by;
        seen = s.seen;
      }
      sim_unit z z' n r r1 wrong le e s = tt

      -- less is asked of what is shown
      pub sim_shows : (others : Shows A) → ((a : A) (p : Place) (later : Steps) → shows a p later → others a p later)
          → (z n : ℕ) (r : Steps) (o : Run A) → Sim worth ends shows z n r o → Sim worth ends others z n r o
      sim_shows others f z n r (goes a p) s = (s.0, f a p s.0 s.1, s.2)
      sim_shows others f z n r (stops e p) s = s
      sim_shows others f z n r (spent p) s = s
      sim_shows others f z n r wrong s = tt

    -- a part, and then what its value leads to, in surroundings of the code
    pub sim_bind : (A C : Type 0) (shows : Shows A) (shows_then : Shows C) (around : Outcome → Outcome) (z1 z2 n : ℕ) (r : Steps) (o : Run A) (go : A → Part C)
        → Keeps around → Sim worth ends shows z1 n r o
        → ((a : A) (p : Place) (later : Steps) → shows a p later → p.units ≤ n → Sim worth ends shows_then z2 p.units (λ k. around (later k)) (go a p))
        → Sim worth ends shows_then (z1 + z2) n (λ m. around (r m)) (after o go)
    sim_bind A C shows shows_then around z1 z2 n r (goes a p) go keeps s next =
        sim_after C shows_then z1 z2 n p.units (λ m. around (r m)) (λ k. around (s.0 k)) (go a p) (comes_in_surroundings around z1 n p.units r s.0 s.2)
        (next a p s.0 s.1 (let u = s.2.units in omega (arith, u)))
    sim_bind A C shows shows_then around z1 z2 n r (stops e p) go keeps s next =
        let c = comes_in_surroundings around z1 n s.3 r (λ k. Ended s.0 s.1) s.4 in (
          s.0,
          s.1,
          s.2,
          s.3,
          record {
            cost = c.cost;
            used = c.used;
            units = c.units;
            no_fewer = c.no_fewer;
            no_more = let h = c.no_more in omega (arith, h);
            by = λ k. c.by k ∙ keeps.ended s.0 s.1;
          },
        )
    sim_bind A C shows shows_then around z1 z2 n r (spent p) go keeps s next = record {
      cost = s.cost;
      store = s.store;
      no_fewer = s.no_fewer;
      no_more = let h = s.no_more in omega (arith, h);
      by = ap around s.by ∙ keeps.spent s.store;
      seen = s.seen;
    }
    sim_bind A C shows shows_then around z1 z2 n r wrong go keeps s next = tt

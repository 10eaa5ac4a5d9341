-- Where chains of bound imports end, and which come back.
use Rattle.std.proofs.Common.{◌≡◌, ◌≢◌, ℕ, zero, suc, ◌+◌, ◌-◌, ◌*◌, ◌<◌, ◌≤◌, Bool, true, false, List, [], ◌∷◌, ◌++◌, length, replicate, Option, Some, None, ◌⊎◌, inl, inr, nat_eq, refl, sym, ap, ◌∙◌, subst, arith, eq-eqb, add-zero}
use Rattle.std.specs.Prelude.{◌||◌, slice_get}
use Rattle.std.specs.Option.{unwrap_or}
use Rattle.std.proofs.lemmas.Bool.{cases_lt, false≢true}
use Rattle.std.proofs.lemmas.Bool.Decides.{nat_tests}
use Rattle.wasm_link_lang.specs.Pairs.{Pair, bindings, bound, next, stands_for, bound_or_itself}
use Rattle.wasm_link_lang.specs.Refusal.{leads_to, reaches}
use Rattle.wasm_link_bind.specs.Chains.{step, again}
use Rattle.wasm_link_bind.proofs.Steps.{again_more}

-- ---- what isn't bound stays

stays : (bs : List (Option ℕ)) (a : ℕ) → bound (slice_get bs a) ≡ None → step bs a ≡ a
unfolding step
stays bs a e = ap (λ o. unwrap_or o a) e

goes : (bs : List (Option ℕ)) (a b : ℕ) → bound (slice_get bs a) ≡ Some b → step bs a ≡ b
unfolding step
goes bs a b e = ap (λ o. unwrap_or o a) e

pub fixed : (bs : List (Option ℕ)) (n a : ℕ) → bound (slice_get bs a) ≡ None → again bs n a ≡ a
unfolding again
fixed bs zero a e = refl
fixed bs (suc n) a e = ap (again bs n) (stays bs a e) ∙ fixed bs n a e

-- a chain that has ended goes no further
pub settled : (bs : List (Option ℕ)) (n m a : ℕ) → n ≤ m → bound (slice_get bs (again bs n a)) ≡ None → again bs m a ≡ again bs n a
settled bs n m a le e =
    let sum : m ≡ (m - n) + n = omega arith in
    ap (λ k. again bs k a) sum ∙ again_more bs (m - n) n a ∙ fixed bs (m - n) (again bs n a) e

-- ---- what a function stands for

pub ends_at : (w : Pair) (n a : ℕ) → next w (again (bindings w) n a) ≡ None → stands_for (suc n) w a ≡ Some (again (bindings w) n a)
unfolding again
ends_at w zero a e = ap (λ o. bound_or_itself o a (stands_for zero w)) e
ends_at w (suc n) a e = by (next w a) refl (ends_at w n)
  where
    by : (o : Option ℕ) → next w a ≡ o → ((b : ℕ) → next w (again (bindings w) n b) ≡ None → stands_for (suc n) w b ≡ Some (again (bindings w) n b)) → stands_for (suc (suc n)) w a ≡ Some (again (bindings w) n (step (bindings w) a))
    by None none rest =
        ap (λ o. bound_or_itself o a (stands_for (suc n) w)) none ∙ ap (λ (k : ℕ). Some k) (sym (ap (again (bindings w) n) (stays (bindings w) a none) ∙ fixed (bindings w) n a none))
    by (Some b) some rest =
        let to = goes (bindings w) a b some in
        ap (λ o. bound_or_itself o a (stands_for (suc n) w)) some
        ∙ rest b (ap (λ k. next w (again (bindings w) n k)) (sym to) ∙ e)
        ∙ ap (λ (k : ℕ). Some k) (ap (again (bindings w) n) (sym to))

-- ---- what is reached

or_cases : (a b : Bool) → a || b ≡ true → (a ≡ true) ⊎ (b ≡ true)
or_cases true b e = inl refl
or_cases false b e = inr e

or_right : (a b : Bool) → b ≡ true → a || b ≡ true
or_right true b e = refl
or_right false b e = e

or_left : (a b : Bool) → a ≡ true → a || b ≡ true
or_left true b e = refl
or_left false b e = absurd (false≢true e)

-- what is reached in n steps is what some count of steps leads to
pub reached : (w : Pair) (n a b : ℕ) → reaches n w a b ≡ true → (k : ℕ) × (k < n) × (again (bindings w) (suc k) a ≡ b) × ((c : ℕ) × (next w a ≡ Some c))
unfolding again
reached w zero a b e = absurd (false≢true e)
reached w (suc n) a b e = by (next w a) refl (λ c. reached w n c b)
  where
    by : (o : Option ℕ) → next w a ≡ o → ((c : ℕ) → reaches n w c b ≡ true → (k : ℕ) × (k < n) × (again (bindings w) (suc k) c ≡ b) × ((d : ℕ) × (next w c ≡ Some d)))
        → (k : ℕ) × (k < suc n) × (again (bindings w) (suc k) a ≡ b) × ((c : ℕ) × (next w a ≡ Some c))
    by None none rest = absurd (false≢true (sym (ap (λ o. leads_to o b (λ c. reaches n w c b)) none) ∙ e))
    by (Some c) some rest = here (or_cases (nat_eq c b) (reaches n w c b) (sym (ap (λ o. leads_to o b (λ c. reaches n w c b)) some) ∙ e))
      where
        here : (nat_eq c b ≡ true) ⊎ (reaches n w c b ≡ true) → (k : ℕ) × (k < suc n) × (again (bindings w) (suc k) a ≡ b) × ((c : ℕ) × (next w a ≡ Some c))
        here (inl same) = let is : c ≡ b = grind (arith, nat_tests) in (0, omega arith, goes (bindings w) a c some ∙ is, (c, some))
        here (inr later) = let r = rest c later in (suc r.0, omega (arith, r.1), ap (again (bindings w) (suc r.0)) (goes (bindings w) a c some) ∙ r.2, (c, some))

-- .. and the other way round, for a bound import
pub reaching : (w : Pair) (n k a b c : ℕ) → k < n → next w b ≡ Some c → again (bindings w) (suc k) a ≡ b → reaches n w a b ≡ true
unfolding again
reaching w zero k a b c h is e = absurd (omega (arith, h))
reaching w (suc n) k a b c h is e = by (next w a) refl (λ k d. reaching w n k d b c)
  where
    by : (o : Option ℕ) → next w a ≡ o → ((k d : ℕ) → k < n → next w b ≡ Some c → again (bindings w) (suc k) d ≡ b → reaches n w d b ≡ true) → reaches (suc n) w a b ≡ true
    by None none rest =
        let same : a ≡ b = sym (fixed (bindings w) (suc k) a none) ∙ e in
        let both : None ≡ Some c = sym none ∙ ap (next w) same ∙ is in
        absurd (cc)
    by (Some d) some rest = ap (λ o. leads_to o b (λ c. reaches n w c b)) some ∙ on k h e
      where
        on : (k : ℕ) → k < suc n → again (bindings w) (suc k) a ≡ b → nat_eq d b || reaches n w d b ≡ true
        on zero h e = or_left (nat_eq d b) (reaches n w d b) (eq-eqb d b (sym (goes (bindings w) a d some) ∙ e))
        on (suc k) h e = or_right (nat_eq d b) (reaches n w d b) (rest k d (omega (arith, h)) is (ap (again (bindings w) (suc k)) (sym (goes (bindings w) a d some)) ∙ e))

-- Of numbers below n, one more than n aren't all different.
use Rattle.std.proofs.Common.{◌≡◌, ◌≢◌, ℕ, zero, suc, ◌+◌, ◌-◌, ◌<◌, ◌≤◌, ◌⊎◌, inl, inr, refl, sym, ap, ◌∙◌, subst, arith}
use Rattle.std.proofs.lemmas.Bool.{cases_lt, cases_eq}

-- one of the first n numbers is v, or none is
found_or_not : (f : ℕ → ℕ) (v n : ℕ) → ((k : ℕ) × (k < n) × (f k ≡ v)) ⊎ ((k : ℕ) → k < n → f k ≢ v)
found_or_not f v zero = inr (λ k h. absurd (omega (arith, h)))
found_or_not f v (suc n) = by (found_or_not f v n) (cases_eq (f n) v)
  where
    by : ((k : ℕ) × (k < n) × (f k ≡ v)) ⊎ ((k : ℕ) → k < n → f k ≢ v) → (f n ≡ v) ⊎ (f n ≡ v → ⊥) → ((k : ℕ) × (k < suc n) × (f k ≡ v)) ⊎ ((k : ℕ) → k < suc n → f k ≢ v)
    by (inl h) last = inl (h.0, omega (arith, h.1), h.2)
    by (inr none) (inl e) = inl (n, omega arith, e)
    by (inr none) (inr ne) = inr (λ k h. each k h (cases_lt k n))
      where
        each : (k : ℕ) → k < suc n → (k < n) ⊎ (n ≤ k) → f k ≢ v
        each k h (inl lt) = none k lt
        each k h (inr ge) = λ e. ne (ap f (omega arith) ∙ e)

-- the numbers past v, one less
shut : (v x : ℕ) → (v < x) ⊎ (x ≤ v) → ℕ
shut v x (inl past) = x - 1
shut v x (inr h) = x

shut_below : (n v x : ℕ) (s : (v < x) ⊎ (x ≤ v)) → x < suc n → v < suc n → x ≢ v → shut v x s < n
unfolding shut
shut_below n v x (inl past) h k ne = omega arith
shut_below n v x (inr at) h k ne = omega arith

shut_same : (v x y : ℕ) (s : (v < x) ⊎ (x ≤ v)) (t : (v < y) ⊎ (y ≤ v)) → x ≢ v → y ≢ v → shut v x s ≡ shut v y t → x ≡ y
unfolding shut
shut_same v x y (inl p) (inl q) a b e = omega arith
shut_same v x y (inl p) (inr q) a b e = omega arith
shut_same v x y (inr p) (inl q) a b e = omega arith
shut_same v x y (inr p) (inr q) a b e = e

abbrev pub Meet : (ℕ → ℕ) → ℕ → Type 0
Meet f n = (i : ℕ) × (j : ℕ) × (i < j) × (j ≤ n) × (f i ≡ f j)

pub pigeons : (n : ℕ) (f : ℕ → ℕ) → ((k : ℕ) → k ≤ n → f k < n) → Meet f n
pigeons zero f h = absurd (omega (arith, h 0 (omega arith)))
pigeons (suc n) f h =
    by (found_or_not f (f (suc n)) (suc n))
    (λ none. pigeons n (λ k. shut (f (suc n)) (f k) (cases_lt (f (suc n)) (f k))) (λ k le. shut_below n (f (suc n)) (f k) (cases_lt (f (suc n)) (f k)) (h k (omega arith)) (h (suc n) (omega arith)) (none k (omega arith))))
  where
    by : ((k : ℕ) × (k < suc n) × (f k ≡ f (suc n))) ⊎ ((k : ℕ) → k < suc n → f k ≢ f (suc n))
        → (((k : ℕ) → k < suc n → f k ≢ f (suc n)) → Meet (λ k. shut (f (suc n)) (f k) (cases_lt (f (suc n)) (f k))) n) → Meet f (suc n)
    by (inl k) rest = (k.0, suc n, k.1, omega arith, k.2)
    by (inr none) rest =
        let r = rest none in
        let first : r.0 < suc n = omega arith in
        let second : r.1 < suc n = omega arith in
        (r.0, r.1, r.2, omega arith, shut_same (f (suc n)) (f r.0) (f r.1) (cases_lt (f (suc n)) (f r.0)) (cases_lt (f (suc n)) (f r.1)) (none r.0 first) (none r.1 second) r.4)

-- Reading a slot that was written, and another one.
use Rattle.std.proofs.Common.{◌≡◌, ⊎_elim, ℕ, zero, suc, ◌+◌, ◌<◌, List, [], ◌∷◌, ◌++◌, length, refl, sym, ap, ◌∙◌, arith, subst}
use Rattle.std.proofs.lemmas.Bool.Decides.{eqb_tells}
use Rattle.asm_run_code.specs.Slots.{get, put, put_all}

pub get_same : (ws : List ℕ) (i v : ℕ) → get (put ws i v) i ≡ v
unfolding get put
get_same [] zero v = refl
get_same [] (suc i) v = get_same [] i v
get_same (w ∷ ws) zero v = refl
get_same (w ∷ ws) (suc i) v = get_same ws i v

pub get_other : (ws : List ℕ) (i j v : ℕ) → (i ≡ j → ⊥) → get (put ws i v) j ≡ get ws j
unfolding get put
get_other [] zero zero v h = absurd (h refl)
get_other [] zero (suc j) v h = refl
get_other [] (suc i) zero v h = refl
get_other [] (suc i) (suc j) v h = get_other [] i j v (λ e. h (ap suc e))
get_other (w ∷ ws) zero zero v h = absurd (h refl)
get_other (w ∷ ws) zero (suc j) v h = refl
get_other (w ∷ ws) (suc i) zero v h = refl
get_other (w ∷ ws) (suc i) (suc j) v h = get_other ws i j v (λ e. h (ap suc e))

-- a word that stands there already
pub put_back : (ws : List ℕ) (i v : ℕ) → get ws i ≡ v → (j : ℕ) → get (put ws i v) j ≡ get ws j
put_back ws i v h j = ⊎_elim (λ e. subst (λ j. get (put ws i v) j ≡ get ws j) e.1 (get_same ws i v ∙ sym h)) (λ e. get_other ws i j v e.1) (eqb_tells i j)

pub get_before : (ws vs : List ℕ) (i j : ℕ) → j < i → get (put_all ws i vs) j ≡ get ws j
unfolding put_all
get_before ws [] i j lt = refl
get_before ws (v ∷ vs) i j lt = get_before (put ws i v) vs (suc i) j (omega (arith, lt)) ∙ get_other ws i j v (λ e. omega (arith, e, lt))

pub get_among : (ws vs : List ℕ) (i k : ℕ) → k < length vs → get (put_all ws i vs) (i + k) ≡ get vs k
unfolding put_all get
get_among ws [] i k lt = absurd (omega (arith, lt))
get_among ws (v ∷ vs) i zero lt = let e : i + 0 ≡ i = omega arith in ap (get (put_all (put ws i v) (suc i) vs)) e ∙ get_before (put ws i v) vs (suc i) i (omega arith) ∙ get_same ws i v
get_among ws (v ∷ vs) i (suc k) lt = let e : i + suc k ≡ suc i + k = omega arith in ap (get (put_all (put ws i v) (suc i) vs)) e ∙ get_among (put ws i v) vs (suc i) k (omega (arith, lt))

pub get_front : (xs ys : List ℕ) (i : ℕ) → i < length xs → get (xs ++ ys) i ≡ get xs i
unfolding get
get_front [] ys i lt = absurd (omega (arith, lt))
get_front (x ∷ xs) ys zero lt = refl
get_front (x ∷ xs) ys (suc i) lt = get_front xs ys i (omega (arith, lt))

pub get_past : (xs ys : List ℕ) (i k : ℕ) → i ≡ length xs + k → get (xs ++ ys) i ≡ get ys k
unfolding get
get_past [] ys i k e = let f : i ≡ k = omega (arith, e) in ap (get ys) f
get_past (x ∷ xs) ys zero k e = absurd (omega (arith, e))
get_past (x ∷ xs) ys (suc i) k e = get_past xs ys i k (omega (arith, e))

-- The places of bound imports among all function imports.
use Rattle.std.proofs.lemmas.List.{length-replicate}
use Rattle.std.proofs.Common.{◌≡◌, ◌≢◌, ℕ, zero, suc, ◌+◌, ◌-◌, ◌<◌, ◌≤◌, List, [], ◌∷◌, ◌++◌, length, replicate, Option, Some, None, ◌⊎◌, inl, inr, refl, sym, ap, ◌∙◌, subst, arith, zero-add, length-append}
use Rattle.std.specs.Prelude.{slice_get}
use Rattle.std.proofs.lemmas.Bool.{cases_lt}
use Rattle.wasm_link_lang.specs.Pairs.{bound}

none_bound : (m a b : ℕ) → bound (slice_get (replicate m None) a) ≡ Some b → ⊥
none_bound zero a b e = cc
none_bound (suc m) zero b e = cc
none_bound (suc m) (suc a) b e = none_bound m a b e

in_front : (xs : List (Option ℕ)) (m a b : ℕ) → bound (slice_get (xs ++ replicate m None) a) ≡ Some b → a < length xs
in_front [] m a b e = absurd (none_bound m a b e)
in_front (x ∷ xs) m zero b e = omega arith
in_front (x ∷ xs) m (suc a) b e = omega (arith, in_front xs m a b e)

in_parts : (us vs : List (Option ℕ)) (a b : ℕ) → bound (slice_get (us ++ vs) a) ≡ Some b → (bound (slice_get us a) ≡ Some b) ⊎ ((k : ℕ) × (a ≡ length us + k) × (bound (slice_get vs k) ≡ Some b))
in_parts [] vs a b e = inr (a, sym (zero-add a), e)
in_parts (u ∷ us) vs zero b e = inl e
in_parts (u ∷ us) vs (suc a) b e = by (in_parts us vs a b e)
  where
    by : (bound (slice_get us a) ≡ Some b) ⊎ ((k : ℕ) × (a ≡ length us + k) × (bound (slice_get vs k) ≡ Some b)) → (bound (slice_get us a) ≡ Some b) ⊎ ((k : ℕ) × (suc a ≡ length (u ∷ us) + k) × (bound (slice_get vs k) ≡ Some b))
    by (inl h) = inl h
    by (inr (k, e, h)) = inr (k, omega (arith, e), h)

-- what is bound is an import of the first or of the second
pub stands : (xs : List (Option ℕ)) (m : ℕ) (ys : List (Option ℕ)) (n a b : ℕ) → bound (slice_get ((xs ++ replicate m None) ++ (ys ++ replicate n None)) a) ≡ Some b → (a < length xs) ⊎ ((length xs + m ≤ a) × (a < length xs + m + length ys))
stands xs m ys n a b e = by (in_parts (xs ++ replicate m None) (ys ++ replicate n None) a b e)
  where
    by : (bound (slice_get (xs ++ replicate m None) a) ≡ Some b) ⊎ ((k : ℕ) × (a ≡ length (xs ++ replicate m None) + k) × (bound (slice_get (ys ++ replicate n None) k) ≡ Some b)) → (a < length xs) ⊎ ((length xs + m ≤ a) × (a < length xs + m + length ys))
    by (inl h) = inl (in_front xs m a b h)
    by (inr (k, e, h)) =
        let below = in_front ys n k b h in
        let count : length (xs ++ replicate m None) ≡ length xs + m = length-append xs (replicate m None) ∙ ap (λ k. length xs + k) (length-replicate m None) in
        inr (omega (arith, e, count), omega (arith, e, count, below))

-- its place among the imports
unfoldable pub place : (ip op a : ℕ) → (a < ip) ⊎ (ip ≤ a) → ℕ
place ip op a (inl h) = a
place ip op a (inr h) = a - op

pub place_below : (ip op iq a : ℕ) (s : (a < ip) ⊎ (ip ≤ a)) → (a < ip) ⊎ ((ip + op ≤ a) × (a < ip + op + iq)) → place ip op a s < ip + iq
unfolding place
place_below ip op iq a (inl h) t = omega arith
place_below ip op iq a (inr h) (inl k) = absurd (omega arith)
place_below ip op iq a (inr h) (inr k) = omega (arith, k.0, k.1)

pub place_same : (ip op iq a b : ℕ) (s : (a < ip) ⊎ (ip ≤ a)) (t : (b < ip) ⊎ (ip ≤ b)) → (a < ip) ⊎ ((ip + op ≤ a) × (a < ip + op + iq)) → (b < ip) ⊎ ((ip + op ≤ b) × (b < ip + op + iq)) → place ip op a s ≡ place ip op b t → a ≡ b
unfolding place
place_same ip op iq a b (inl h) (inl k) p q e = e
place_same ip op iq a b (inl h) (inr k) p (inl q) e = absurd (omega arith)
place_same ip op iq a b (inl h) (inr k) p (inr q) e = absurd (omega (arith, q.0))
place_same ip op iq a b (inr h) (inl k) (inl p) q e = absurd (omega arith)
place_same ip op iq a b (inr h) (inl k) (inr p) q e = absurd (omega (arith, p.0))
place_same ip op iq a b (inr h) (inr k) (inl p) q e = absurd (omega arith)
place_same ip op iq a b (inr h) (inr k) (inr p) (inl q) e = absurd (omega arith)
place_same ip op iq a b (inr h) (inr k) (inr p) (inr q) e = omega (arith, p.0, q.0)

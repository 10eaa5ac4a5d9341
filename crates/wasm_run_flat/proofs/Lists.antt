-- What stands at a place of a list, and what follows it.
use Rattle.std.proofs.Common.{◌≡◌, ℕ, zero, suc, ◌<◌, List, [], ◌∷◌, length, drop, Some, refl, ap, ◌⊎◌, inl, inr, arith}
use Rattle.std.specs.Prelude.{slice_get}

pub from_here : {A : Type 0} (xs : List A) (at : ℕ) (x : A) → slice_get xs at ≡ Some x → drop at xs ≡ x ∷ drop (suc at) xs
from_here [] at x is = cc
from_here (y ∷ xs) zero x is = let e : y ≡ x = cc in ap (λ z. z ∷ xs) e
from_here (y ∷ xs) (suc at) x is = from_here xs at x is

pub further : {A : Type 0} (xs : List A) (at : ℕ) (x : A) (rest : List A) → drop at xs ≡ x ∷ rest → drop (suc at) xs ≡ rest
further [] zero x rest is = cc
further [] (suc at) x rest is = cc
further (y ∷ xs) zero x rest is = cc
further (y ∷ xs) (suc at) x rest is = further xs at x rest is

pub within : {A : Type 0} (xs : List A) (at : ℕ) → (drop at xs ≡ []) ⊎ (at < length xs)
within [] zero = inl refl
within [] (suc at) = inl refl
within (x ∷ xs) zero = inr (omega arith)
within (x ∷ xs) (suc at) = elim (within xs at) [ inl h ↦ inl h | inr h ↦ inr (omega arith) ]

-- Lists by the places of their elements, and what their elements sum up to.
use Rattle.std.proofs.Common.{◌≡◌, ℕ, zero, suc, ◌+◌, ◌*◌, ◌≤◌, List, [], ◌∷◌, ◌++◌, length, Some, refl, arith}
use Rattle.std.specs.Prelude.{slice_get}
use Rattle.std.specs.List.{AllByRecursion}
use Rattle.wasm_laws_write.specs.Lengths.{total}

pub from_places : {A : Type 0} (P : A → Type 0) (xs : List A) → ((i : ℕ) (x : A) → slice_get xs i ≡ Some x → P x) → AllByRecursion P xs
from_places P [] h = tt
from_places P (x ∷ xs) h = (h zero x refl, from_places P xs (λ i y e. h (suc i) y e))

pub both_all : {A : Type 0} (P : A → Type 0) (xs ys : List A) → AllByRecursion P xs → AllByRecursion P ys → AllByRecursion P (xs ++ ys)
both_all P [] ys a b = b
both_all P (x ∷ xs) ys a b = (a.0, both_all P xs ys a.1 b)

pub total_joins : {A : Type 0} (f : A → ℕ) (xs ys : List A) → total f (xs ++ ys) ≡ total f xs + total f ys
total_joins f [] ys = omega arith
total_joins f (x ∷ xs) ys = omega (arith, total_joins f xs ys)

pub total_most : {A : Type 0} (f : A → ℕ) (k : ℕ) (xs : List A) → AllByRecursion (λ x. f x ≤ k) xs → total f xs ≤ k * length xs
total_most f k [] a = omega arith
total_most f k (x ∷ xs) a = let here = a.0 in let rest = total_most f k xs a.1 in omega (arith, here, rest)

-- Elements of lists by their places.
use Rattle.std.proofs.Common.{◌≡◌, ℕ, zero, suc, ◌+◌, List, [], ◌∷◌, ◌++◌, length, map, Some, ap, ◌∙◌, subst, arith}
use Rattle.std.specs.Prelude.{slice_get}
use Rattle.std.specs.List.{AllByRecursion}

module _ {A : Type 0} where
  pub get_second : (xs ys : List A) (i : ℕ) → slice_get (xs ++ ys) (length xs + i) ≡ slice_get ys i
  get_second [] ys i = let e : 0 + i ≡ i = omega arith in ap (slice_get ys) e
  get_second (x ∷ xs) ys i = let e : suc (length xs) + i ≡ suc (length xs + i) = omega arith in ap (slice_get (x ∷ (xs ++ ys))) e ∙ get_second xs ys i

  pub get_first : (xs ys : List A) (i : ℕ) (x : A) → slice_get xs i ≡ Some x → slice_get (xs ++ ys) i ≡ Some x
  get_first [] ys i x h = absurd (cc h)
  get_first (y ∷ xs) ys zero x h = h
  get_first (y ∷ xs) ys (suc i) x h = get_first xs ys i x h

  pub all_at : (P : A → Type 0) (xs : List A) (i : ℕ) (x : A) → AllByRecursion P xs → slice_get xs i ≡ Some x → P x
  all_at P [] i x a h = absurd (cc h)
  all_at P (y ∷ xs) zero x a h = let e : y ≡ x = cc h in subst P e a.0
  all_at P (y ∷ xs) (suc i) x a h = all_at P xs i x a.1 h

  pub all_first : (P : A → Type 0) (xs ys : List A) → AllByRecursion P (xs ++ ys) → AllByRecursion P xs
  all_first P [] ys a = tt
  all_first P (x ∷ xs) ys a = (a.0, all_first P xs ys a.1)

  pub all_second : (P : A → Type 0) (xs ys : List A) → AllByRecursion P (xs ++ ys) → AllByRecursion P ys
  all_second P [] ys a = a
  all_second P (x ∷ xs) ys a = all_second P xs ys a.1

pub all_mapped : {A B : Type 0} → (P : B → Type 0) (f : A → B) (xs : List A) → AllByRecursion P (map f xs) → AllByRecursion (λ x. P (f x)) xs
all_mapped P f [] a = tt
all_mapped P f (x ∷ xs) a = (a.0, all_mapped P f xs a.1)

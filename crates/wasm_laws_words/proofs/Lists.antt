-- Loops over lists, and the two forms of a fact on all items.
use Rattle.std.proofs.Common.{ℕ, ◌≤◌, List, length, map, take, subst}
use Rattle.std.specs.Prelude.{All}
use Rattle.std.specs.List.{AllByRecursion}
use Rattle.std.proofs.lemmas.List.{take_all}
use Rattle.std.proofs.lemmas.List.Elements.{All-map, recursion_from_All}

-- a loop over ys that has come to their end
pub all_passed : {X Y : Type 0} (P : X → Type 0) (f : Y → X) (ys : List Y) (n : ℕ) → length ys ≤ n → All (λ y. P (f y)) (take n ys) → All P (map f ys)
all_passed P f ys n le h = All-map P f ys (subst (All (λ y. P (f y))) (take_all n ys le) h)

pub all_taken : {X : Type 0} (P : X → Type 0) (xs : List X) (n : ℕ) → length xs ≤ n → All P (take n xs) → All P xs
all_taken P xs n le h = subst (All P) (take_all n xs le) h

pub each : {X : Type 0} (P : X → Type 0) (xs : List X) → All P xs → AllByRecursion P xs
each P xs h = recursion_from_All P xs h

-- The first of lines, as loops find it.
use Rattle.std.proofs.Common.{◌≡◌, ℕ, min, List, [], ◌∷◌, ◌++◌, Option, Some, None, refl, sym, ap, ◌∙◌, arith}
use Rattle.session_lang.specs.Fits.{lesser, least}
use Rattle.session_lang.specs.Earlier.{earlier}

pub earlier_none : (o : Option ℕ) → earlier o None ≡ o
earlier_none None = refl
earlier_none (Some n) = refl

min_assoc : (x y z : ℕ) → min x (min y z) ≡ min (min x y) z
min_assoc x y z = grind arith

min_comm : (x y : ℕ) → min x y ≡ min y x
min_comm x y = grind arith

-- a line may go with those before it or with those after it
pub earlier_lesser : (n : ℕ) (a b : Option ℕ) → earlier (lesser n a) b ≡ earlier a (lesser n b)
earlier_lesser n None b = refl
earlier_lesser n (Some k) None = ap Some (min_comm n k)
earlier_lesser n (Some k) (Some j) = ap Some (ap (λ x. min x j) (min_comm n k) ∙ sym (min_assoc k n j))

lesser_earlier : (n : ℕ) (a b : Option ℕ) → lesser n (earlier a b) ≡ earlier (lesser n a) b
lesser_earlier n None b = refl
lesser_earlier n (Some k) None = refl
lesser_earlier n (Some k) (Some j) = ap Some (min_assoc n k j)

pub least_append : (xs ys : List ℕ) → least (xs ++ ys) ≡ earlier (least xs) (least ys)
least_append [] ys = refl
least_append (x ∷ xs) ys = ap (lesser x) (least_append xs ys) ∙ lesser_earlier x (least xs) (least ys)

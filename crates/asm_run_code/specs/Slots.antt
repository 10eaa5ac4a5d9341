-- Slots: a list of words that nothing lies outside of.
use Rattle.std.specs.Prelude.{ℕ, zero, suc, List, [], ◌∷◌}

-- 0 past the end
unfoldable pub get : List ℕ → ℕ → ℕ
get [] i = 0
get (w ∷ ws) zero = w
get (w ∷ ws) (suc i) = get ws i

-- with zeros up to the place where it lies past the end
unfoldable pub put : List ℕ → ℕ → ℕ → List ℕ
put [] zero v = v ∷ []
put [] (suc i) v = 0 ∷ put [] i v
put (w ∷ ws) zero v = v ∷ ws
put (w ∷ ws) (suc i) v = w ∷ put ws i v

-- from a place on
unfoldable pub put_all : List ℕ → ℕ → List ℕ → List ℕ
put_all ws i [] = ws
put_all ws i (v ∷ vs) = put_all (put ws i v) (suc i) vs

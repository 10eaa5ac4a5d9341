-- Lists that grow at their ends.
use Rattle.std.proofs.Common.{◌≡◌, List, [], ◌∷◌, ◌++◌, map, ap, ◌∙◌}
use Rattle.std.proofs.lemmas.List.{map_push}

pub pushed : {A B : Type 0} (f : A → B) (xs ys : List A) (x : A) (before : List B) (y : B) → map f xs ≡ before → ys ≡ xs ++ x ∷ [] → f x ≡ y → map f ys ≡ before ++ y ∷ []
pushed f xs ys x before y so_far is one = ap (map f) is ∙ map_push f xs x ∙ ap (λ bs. bs ++ f x ∷ []) so_far ∙ ap (λ z. before ++ z ∷ []) one

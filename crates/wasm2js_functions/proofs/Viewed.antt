-- Items of a list that is seen through a view.
use Rattle.std.proofs.Common.{◌≡◌, ℕ, List, Some, None, map, sym, ap, ◌∙◌}
use Rattle.std.specs.Prelude.{slice_get, option_map}
use Rattle.std.proofs.lemmas.Option.{slice_get-map}

pub viewed : {A B : Type 0} (v : A → B) (xs : List A) (k : ℕ) (x : A) → Some x ≡ slice_get xs k → slice_get (map v xs) k ≡ Some (v x)
viewed v xs k x h = slice_get-map v xs k ∙ ap (option_map v) (sym h)

pub not_viewed : {A B : Type 0} (v : A → B) (xs : List A) (k : ℕ) → None ≡ slice_get xs k → slice_get (map v xs) k ≡ None
not_viewed v xs k h = slice_get-map v xs k ∙ ap (option_map v) (sym h)

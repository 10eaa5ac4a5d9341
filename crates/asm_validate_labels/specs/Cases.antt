-- The values of cases, and the least and the greatest of them.
use Rattle.std.specs.Prelude.{◌^◌, List, [], ◌∷◌, Option, Some, None, ℤ, pos, negsuc}
use Rattle.std.specs.Prelude.{◌≡◌}
use Rattle.std.specs.Ordering.{int_eq}
use Rattle.std.specs.Int.{int_min, int_max}
use Rattle.std.specs.List.{list_any}
use Rattle.indexmap.specs.IndexSet.{IndexSet}
use Rattle.asm_lang_valid.specs.Typing.{is_value}

abbrev pub value_before : Option ℤ → List ℤ → List ℤ
value_before None vs = vs
value_before (Some v) vs = v ∷ vs

-- of values in [-2^31, 2^31)
abbrev pub least : List ℤ → ℤ
least [] = pos (2 ^ 31)
least (v ∷ vs) = int_min v (least vs)

abbrev pub greatest : List ℤ → ℤ
greatest [] = negsuc (2 ^ 31)
greatest (v ∷ vs) = int_max v (greatest vs)

-- a set has these values
pub record Knows {S : Type 0} (s : IndexSet ℤ S) (vs : List ℤ) : Type 0 where
  pub known : (v : ℤ) → list_any (λ u. int_eq v u) s.keys ≡ is_value v vs

-- A label that stands twice, and jumps without one.
use Rattle.std.proofs.Common.{◌≡◌, List, [], ◌∷◌, drop, Some, None, refl}
use Rattle.std.specs.Prelude.{codes}
use Rattle.asm_run_emit_bodies.specs.Targets.{Target, found, those}

abbrev nested : List Target
nested = record { label = None; at = 9 } ∷ those (codes "a" ∷ codes "b" ∷ []) 5 (record { label = Some (codes "a"); at = 2 } ∷ [])

inner_one : found nested (Some (codes "a")) ≡ Some 5
inner_one = refl

outer_again : found (drop 3 nested) (Some (codes "a")) ≡ Some 2
outer_again = refl

unlabelled : found nested None ≡ Some 9
unlabelled = refl

none_left : found (drop 1 nested) None ≡ None
none_left = refl

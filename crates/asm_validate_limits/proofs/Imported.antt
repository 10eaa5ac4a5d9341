-- The name that a declaration imports, by its number.
use Rattle.std.proofs.Common.{◌≡◌, ℕ, zero, suc, List, [], ◌∷◌, map, Some, None, refl, ap}
use Rattle.std.specs.Prelude.{slice_get}
use Rattle.std.specs.Option.{unwrap_or}
use Rattle.asm_tree.specs.declared.tree.Global_.{Global_}
use Rattle.asm_tree.specs.Views.{init_view, global_view}
use Rattle.asm_names.specs.Members.{member_name, import_at}

pub there : (vs : List Global_) (i : ℕ) (v : Global_) → Some v ≡ slice_get vs i → unwrap_or (member_name (init_view v.init)) [] ≡ import_at (map global_view vs) i
there [] i v h = cc
there (w ∷ ws) zero v h = let same : v ≡ w = cc in ap (λ (u : Global_). unwrap_or (member_name (init_view u.init)) []) same
there (w ∷ ws) (suc i) v h = there ws i v h

pub past : (vs : List Global_) (i : ℕ) → None ≡ slice_get vs i → [] ≡ import_at (map global_view vs) i
past [] i h = refl
past (w ∷ ws) zero h = cc
past (w ∷ ws) (suc i) h = past ws i h

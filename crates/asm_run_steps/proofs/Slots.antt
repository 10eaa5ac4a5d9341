-- Slots of words are the places of a vector, and zeros past its end.
use Rattle.std.proofs.Common.{◌≡◌, ℕ, zero, suc, ◌+◌, ◌<◌, ◌≤◌, List, [], ◌∷◌, ◌++◌, length, Option, Some, None, refl, sym, ap, ◌∙◌, arith}
use Rattle.std.specs.Prelude.{slice_get}
use Rattle.std.proofs.Math.ListN.{set}
use Rattle.asm_run_code.specs.Slots.{get, put, put_all}

pub get_here : (ws : List ℕ) (i w : ℕ) → slice_get ws i ≡ Some w → get ws i ≡ w
unfolding get
get_here [] i w h = cc h
get_here (x ∷ ws) zero w h = cc h
get_here (x ∷ ws) (suc i) w h = get_here ws i w h

pub get_past : (ws : List ℕ) (i : ℕ) → length ws ≤ i → get ws i ≡ 0
unfolding get
get_past [] i h = refl
get_past (x ∷ ws) zero h = absurd (omega arith)
get_past (x ∷ ws) (suc i) h = get_past ws i (omega arith)

pub put_inside : (ws : List ℕ) (i v : ℕ) → i < length ws → put ws i v ≡ set ws i v
unfolding put
put_inside [] i v h = absurd (omega arith)
put_inside (x ∷ ws) zero v h = refl
put_inside (x ∷ ws) (suc i) v h = ap (λ ys. x ∷ ys) (put_inside ws i v (omega arith))

-- a zero at the end changes no write past it
pub put_after_zero : (ws : List ℕ) (i v : ℕ) → length ws ≤ i → put (ws ++ 0 ∷ []) i v ≡ put ws i v
unfolding put
put_after_zero [] zero v h = refl
put_after_zero [] (suc i) v h = refl
put_after_zero (x ∷ ws) zero v h = absurd (omega arith)
put_after_zero (x ∷ ws) (suc i) v h = ap (λ ys. x ∷ ys) (put_after_zero ws i v (omega arith))

pub put_end : (ws : List ℕ) (i v : ℕ) → i ≡ length ws → put ws i v ≡ ws ++ v ∷ []
unfolding put
put_end [] zero v h = refl
put_end [] (suc i) v h = absurd (omega arith)
put_end (x ∷ ws) zero v h = absurd (omega arith)
put_end (x ∷ ws) (suc i) v h = ap (λ ys. x ∷ ys) (put_end ws i v (omega arith))

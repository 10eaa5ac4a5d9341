-- A number that stands at a place, and what is left after it.
use Rattle.std.proofs.Common.{◌≡◌, ℕ, ◌+◌, ◌-◌, ◌<◌, ◌≤◌, List, ◌++◌, length, take, drop, sym, ap, ◌∙◌, append_assoc, arith, length-append, length-drop}
use Rattle.std.proofs.lemmas.List.{take-append-drop}
use Rattle.std.proofs.Math.Seq.{drop-append_seam}

-- the place after a field of these bytes
pub record IsPlaceAfter (at : ℕ) (bytes after : List ℕ) : Type 0 where
  pub later : at < length bytes - length after
  pub within : length bytes - length after ≤ length bytes
  pub left : drop (length bytes - length after) bytes ≡ after

pub place_after : (at : ℕ) (bytes after front : List ℕ) → length after < length (drop at bytes) → drop at bytes ≡ front ++ after → IsPlaceAfter at bytes after
place_after at bytes after front shorter is =
    let len : length (drop at bytes) ≡ length bytes - at = length-drop at bytes in
    let whole : (take at bytes ++ front) ++ after ≡ bytes = append_assoc (take at bytes) front after ∙ ap (λ (l : List ℕ). take at bytes ++ l) (sym is) ∙ take-append-drop at bytes in
    let sum : length (take at bytes ++ front) + length after ≡ length bytes = sym (length-append (take at bytes ++ front) after) ∙ ap length whole in
    let place : length bytes - length after ≡ length (take at bytes ++ front) = omega arith in
    record {
      later = omega arith;
      within = omega arith;
      left = ap (λ n. drop n bytes) place ∙ ap (λ (l : List ℕ). drop (length (take at bytes ++ front)) l) (sym whole) ∙ drop-append_seam (take at bytes ++ front) after;
    }

-- The line that pieces make, and its first piece.
use Rattle.std.proofs.Common.{◌≡◌, ℕ, ◌-◌, ◌≤◌, List, [], ◌∷◌, ◌++◌, length, take, drop, get_or, map, sym, subst, ap, arith}
use Rattle.std.specs.List.{concat}
use Rattle.std.specs.Borrow.{Bor}
use Rattle.std.proofs.lemmas.List.{take_rest}
use Rattle.bridge_lang.specs.Sinks.{Seen, Gains, GainsFront}
use Rattle.bridge_cmd.specs.Slices.{now_of}
use Rattle.bridge_cmd.proofs.Gaining.{gains_then_front}

first_piece : (pieces : List (Bor (List ℕ))) (d : Bor (List ℕ)) (first : List ℕ) → 1 ≤ length pieces → first ≡ (get_or pieces 0 d).now
    → concat (map now_of pieces) ≡ first ++ concat (map now_of (drop 1 pieces))
first_piece [] d first some is = absurd (omega arith)
first_piece (piece ∷ pieces) d first some is = ap (λ front. front ++ concat (map now_of pieces)) (sym is)

-- the first piece stands, and a front of the others
pub cut_in_the_rest : (pieces : List (Bor (List ℕ))) (d : Bor (List ℕ)) (first : List ℕ) (s t u : Seen) → 1 ≤ length pieces → first ≡ (get_or pieces 0 d).now
    → Gains first s t → s.faults ≤ t.faults → GainsFront (concat (map now_of (take (length pieces - 1) (drop 1 pieces)))) t u
    → GainsFront (concat (map now_of pieces)) s u
cut_in_the_rest pieces d first s t u some is gains kept front =
    let rest : GainsFront (concat (map now_of (drop 1 pieces))) t u = subst (λ ps. GainsFront (concat (map now_of ps)) t u) (take_rest pieces 1) front in
    subst (λ line. GainsFront line s u) (sym (first_piece pieces d first some is)) (gains_then_front first (concat (map now_of (drop 1 pieces))) s t u gains kept rest)

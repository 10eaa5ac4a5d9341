-- Reading a file piece by piece.
use Rattle.std.proofs.Common.{◌≡◌, ℕ, ◌+◌, ◌≤◌, ◌<◌, List, ◌++◌, length, take, drop, refl, ap, arith, length-take, length-drop}
use Rattle.std.proofs.Math.Seq.{take-add}
use Rattle.std.proofs.lemmas.List.{take-append-le, take_all, length-take-le}
use Rattle.bridge_io.specs.Outside.{RoseBy, last_count}

-- what was read so far is a front of the content, and grows by the next piece
pub front-more : (content so_far piece rest : List ℕ) (at n : ℕ) → so_far ≡ take at content → n ≤ length piece →
    take n piece ≡ take n (drop at content) → so_far ++ take n (piece ++ rest) ≡ take (at + n) content
front-more content so_far piece rest at n front fits gave =
    rw (take-append-le n piece rest, gave, take-add at n content) (ap (λ xs. xs ++ take n (drop at content)) front)

-- a front as long as the content is the content
pub front-all : (content so_far : List ℕ) (at : ℕ) → so_far ≡ take at content → length content ≤ at → content ≡ so_far
front-all content so_far at front end = rw (front, take_all at content end) refl

-- a piece that isn't empty lies in the content
pub piece-within : (content piece : List ℕ) (at n : ℕ) → n ≤ length piece → 0 < n →
    take n piece ≡ take n (drop at content) → at + n ≤ length content
piece-within content piece at n fits some gave =
    omega (arith, simp (length-take, length-drop) at (ap length gave))

-- two raises of a count are one
pub RoseBy-add : (start mid end m n : ℕ) → mid ≤ end → end ≤ last_count → RoseBy m start mid → RoseBy n mid end →
    RoseBy (m + n) start end
RoseBy-add start mid end m n on within first then = grind arith

-- a front of a piece is as long as it says, whatever stands behind the piece
pub length-front : (piece rest : List ℕ) (n : ℕ) → n ≤ length piece → length (take n (piece ++ rest)) ≡ n
length-front piece rest n fits = rw (take-append-le n piece rest) (length-take-le n piece fits)

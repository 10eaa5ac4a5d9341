-- Bytes at equal places.
use Rattle.std.specs.Prelude.{ℕ, zero, suc, Bool, true, ◌&&◌, List, get_or, ◌==◌}

-- the bytes of both from a place on are the same, as many as are said
abbrev pub same_from : List ℕ → List ℕ → (at count : ℕ) → Bool
same_from xs ys at zero = true
same_from xs ys at (suc count) = get_or xs at 0 == get_or ys at 0 && same_from xs ys (suc at) count

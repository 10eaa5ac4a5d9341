-- What slices hold.
use Rattle.std.specs.Prelude.{ℕ, List}
use Rattle.std.specs.Borrow.{Bor}

-- the bytes behind a slice
abbrev pub now_of : Bor (List ℕ) → List ℕ
now_of piece = piece.now

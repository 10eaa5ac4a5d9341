-- Pieces that can be written, and their tokens.
use Rattle.std.specs.Prelude.{◌≡◌, ℕ, ◌<◌, Bool, true, false, ◌&&◌, List, [], ◌∷◌}
use Rattle.std.specs.List.{list_all, AllByRecursion}
use Rattle.wat_lang.specs.Tokens.{Class, opens, closes, string, atom, is_atom_byte}
use Rattle.wat_lang.specs.Printing.{Piece, token, line_end}

-- one byte or more, each of which may stand in an atom
abbrev pub is_atom : List ℕ → Bool
is_atom [] = false
is_atom (b ∷ bs) = is_atom_byte b && list_all is_atom_byte bs

abbrev pub IsFit : Class → Type 0
IsFit (atom bytes) = is_atom bytes ≡ true
IsFit (string value) = AllByRecursion (λ b. b < 256) value
IsFit opens = Unit {0}
IsFit closes = Unit {0}

-- atoms are atoms, and strings are of bytes
abbrev pub AreFit : List Piece → Type 0
AreFit [] = Unit {0}
AreFit (token c ∷ ps) = IsFit c × AreFit ps
AreFit (line_end ∷ ps) = AreFit ps

-- without the ends of lines
abbrev pub classes : List Piece → List Class
classes [] = []
classes (token c ∷ ps) = c ∷ classes ps
classes (line_end ∷ ps) = classes ps

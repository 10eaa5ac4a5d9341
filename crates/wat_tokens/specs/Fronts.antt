-- What the scanning functions find. Only private contracts name these.
use Rattle.std.specs.Prelude.{◌≡◌, ℕ, ◌+◌, ◌<◌, ◌≤◌, Bool, true, ◌&&◌, not, List, [], ◌∷◌, length, drop, encode_utf8, nat_le, ◌==◌, if◌then◌else◌}
use Rattle.wat_lang.specs.Tokens as spec
use Rattle.wat_lang.specs.Tokens.{is_scalar}
use Rattle.wat_tokens.specs.declared.comments.Pair.{Pair}
use Rattle.wat_tokens.specs.declared.comments.Pair.TheVariants as pairs
use Rattle.wat_tokens.specs.declared.pieces.Piece.{Piece}
use Rattle.wat_tokens.specs.declared.pieces.Piece.TheVariants as pieces

-- what a hexadecimal digit counts, or 16 where it is none
abbrev pub value_or_more : ℕ → ℕ
value_or_more b = if spec.is_hexadecimal_digit b then spec.digit_value b else 16

-- a byte that stands in a string for itself: no quote and no backslash
abbrev pub is_plain : ℕ → Bool
is_plain b = (nat_le 32 b && not (b == 127)) && (not (b == 34) && not (b == 92))

abbrev pub pair_view : Pair → spec.Pair
pair_view pairs.Opens = spec.comment_opens
pair_view pairs.Closes = spec.comment_closes
pair_view pairs.Neither = spec.neither

abbrev pub piece_view : Piece → spec.Piece
piece_view pieces.Quote = spec.quote
piece_view (pieces.Byte b) = spec.character (b ∷ []) 0
piece_view (pieces.Escape v n) = spec.character (v ∷ []) n
piece_view (pieces.Scalar c n) = spec.character (encode_utf8 c) n
piece_view pieces.Bad = spec.no_piece

-- the piece doesn't pass the end of the bytes, before which so many others stand
abbrev pub Fits : Piece → ℕ → List ℕ → Type 0
Fits pieces.Quote before bs = (before ≡ 0) × (0 < length bs)
Fits (pieces.Byte b) before bs = (before ≡ 0) × (bs ≡ b ∷ drop 1 bs)
Fits (pieces.Escape v n) before bs = (n + 1 ≤ before + length bs) × (0 < n)
Fits (pieces.Scalar c n) before bs = (n + 1 ≤ before + length bs) × (is_scalar c ≡ true) × (3 < n)
Fits pieces.Bad before bs = Unit {0}

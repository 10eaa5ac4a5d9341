-- A text as gaps and tokens (sections 6.2 and 6.3), each of which begins where the one before it ends.
use Rattle.std.specs.Prelude.{◌≡◌, ℕ, zero, suc, ◌+◌, ◌-◌, ◌*◌, Bool, false, ◌&&◌, ◌||◌, not, List, [], ◌∷◌, ◌++◌, length, take, drop, Option, Some, None, option_map, Result, Ok, Err, codes, nat_le, nat_lt, ◌==◌, if◌then◌else◌}
use Rattle.std.specs.List.{list_any, prefix_len}
use Rattle.std.specs.Char.{encode_utf8}

-- ---- tokens

-- A string is the bytes that it stands for. Every other run of bytes is an atom: words, numbers and ids.
pub data Class : Type 0 where
  opens closes : Class
  string : (value : List ℕ) → Class
  atom : (bytes : List ℕ) → Class

-- a token and the offset of its first byte
pub record Token : Type 0 where
  pub class : Class
  pub at : ℕ

-- ---- bytes

abbrev pub is_digit : ℕ → Bool
is_digit b = nat_le 48 b && nat_le b 57

abbrev pub is_letter : ℕ → Bool
is_letter b = (nat_le 97 b && nat_le b 122) || (nat_le 65 b && nat_le b 90)

-- 0 to 9, a to f, A to F
abbrev pub is_hexadecimal_digit : ℕ → Bool
is_hexadecimal_digit b = is_digit b || ((nat_le 97 b && nat_le b 102) || (nat_le 65 b && nat_le b 70))

-- what a digit of either kind counts
abbrev pub digit_value : ℕ → ℕ
digit_value b = if nat_le 97 b then b - 87 else (if nat_le 65 b then b - 55 else b - 48)

-- what may stand in an atom (`idchar`, section 6.3.5)
abbrev pub is_atom_byte : ℕ → Bool
is_atom_byte b = (is_letter b || is_digit b) || list_any (λ a. a == b) (codes "!#$%&'*+-./:<=>?@\\^_`|~")

-- space, tab, line feed, carriage return
abbrev pub is_blank : ℕ → Bool
is_blank b = (b == 32) || ((b == 9) || ((b == 10) || (b == 13)))

-- ---- comments (section 6.2.4)

-- what two bytes in a block comment do
pub data Pair : Type 0 where
  comment_opens comment_closes neither : Pair

-- `(;` or `;)`
abbrev pub pair_of : ℕ → ℕ → Pair
pair_of a b = if (a == 40) && (b == 59) then comment_opens else (if (a == 59) && (b == 41) then comment_closes else neither)

-- What follows the block comment that is open, and within which so many others are; None where it isn't closed.
-- A pair takes both of its bytes: `(;)` is open.
abbrev pub comment_rest : (inner : ℕ) → List ℕ → Option (List ℕ)
comment_rest n [] = None
comment_rest n (a ∷ []) = None
comment_rest n (a ∷ b ∷ bs) =
    elim (pair_of a b) [ comment_opens ↦ comment_rest (suc n) bs | comment_closes ↦ elim n [ zero ↦ Some bs | suc m ↦ comment_rest m bs ] | neither ↦ comment_rest n (b ∷ bs) ]

abbrev pub is_no_line_feed : ℕ → Bool
is_no_line_feed b = not (b == 10)

-- ---- strings (section 6.3.3)

-- what stands next in a string: its closing quote, a character of n + 1 bytes that stands for these, or nothing that may stand there
pub data Piece : Type 0 where
  quote : Piece
  character : (value : List ℕ) (n : ℕ) → Piece
  no_piece : Piece

-- a byte as it stands: from space up, but 7F
abbrev pub is_string_byte : ℕ → Bool
is_string_byte b = nat_le 32 b && not (b == 127)

-- the value of digits in a base, after those whose value is n
abbrev pub value_in : (base : ℕ) → ℕ → List ℕ → ℕ
value_in base n [] = n
value_in base n (d ∷ ds) = value_in base (base * n + digit_value d) ds

-- a Unicode scalar value
abbrev pub is_scalar : ℕ → Bool
is_scalar c = nat_lt c 0xd800 || (nat_le 0xe000 c && nat_lt c 0x110000)

abbrev pub begins_with : ℕ → List ℕ → Bool
begins_with a [] = false
begins_with a (b ∷ bs) = b == a

-- behind `\u{`: k hexadecimal digits and `}`
abbrev pub unicode_piece : (k : ℕ) → List ℕ → Piece
unicode_piece k bs =
    if (nat_lt 0 k && begins_with 125 (drop k bs)) && is_scalar (value_in 16 0 (take k bs))
    then character (encode_utf8 (value_in 16 0 (take k bs))) (k + 3) else no_piece

-- behind `\u`
abbrev pub brace_piece : List ℕ → Piece
brace_piece bs = if begins_with 123 bs then unicode_piece (prefix_len is_hexadecimal_digit (drop 1 bs)) (drop 1 bs) else no_piece

-- behind `\`: two hexadecimal digits
abbrev pub byte_piece : List ℕ → Piece
byte_piece [] = no_piece
byte_piece (a ∷ []) = no_piece
byte_piece (a ∷ b ∷ bs) = if is_hexadecimal_digit a && is_hexadecimal_digit b then character ((16 * digit_value a + digit_value b) ∷ []) 2 else no_piece

-- the byte that a letter or sign behind `\` stands for
abbrev pub escaped : ℕ → Option ℕ
escaped b =
    if b == 116 then Some 9 else (if b == 110 then Some 10 else (if b == 114 then Some 13
    else (if ((b == 34) || (b == 39)) || (b == 92) then Some b else None)))

abbrev pub escape_piece : List ℕ → Piece
escape_piece [] = no_piece
escape_piece (b ∷ bs) = elim (escaped b) [ Some v ↦ character (v ∷ []) 1 | None ↦ if b == 117 then brace_piece bs else byte_piece (b ∷ bs) ]

abbrev pub piece_of : List ℕ → Piece
piece_of [] = no_piece
piece_of (b ∷ bs) =
    if b == 34 then quote else (if b == 92 then escape_piece bs
    else (if is_string_byte b then character (b ∷ []) 0 else no_piece))

abbrev pub put_value : List ℕ → List ℕ × List ℕ → List ℕ × List ℕ
put_value v s = (v ++ s.0, s.1)

-- Behind the opening quote: what the string stands for and what follows its closing quote, past so many bytes;
-- None where it has a byte or an escape that may not stand in a string, or doesn't end.
abbrev pub string_from : (skip : ℕ) → List ℕ → Option (List ℕ × List ℕ)
string_from n [] = None
string_from (suc n) (b ∷ bs) = string_from n bs
string_from zero (b ∷ bs) =
    elim (piece_of (b ∷ bs)) [ quote ↦ Some ([], bs) | character v n ↦ option_map (put_value v) (string_from n bs) | no_piece ↦ None ]

-- ---- what stands at the front of a text

-- a gap of n bytes, a token of n bytes, or nothing that may stand there
pub data Front : Type 0 where
  gap : (n : ℕ) → Front
  token : Class → (n : ℕ) → Front
  no_front : Front

-- `;;` up to a line feed or the end
abbrev pub semicolon_front : List ℕ → Front
semicolon_front bs = if begins_with 59 bs then gap (2 + prefix_len is_no_line_feed (drop 1 bs)) else no_front

-- what follows a block comment, within so many bytes
abbrev pub comment_front : ℕ → Option (List ℕ) → Front
comment_front n None = no_front
comment_front n (Some rest) = gap (n - length rest)

abbrev pub open_front : List ℕ → Front
open_front bs = if begins_with 59 bs then comment_front (1 + length bs) (comment_rest 0 (drop 1 bs)) else token opens 1

abbrev pub string_front : ℕ → Option (List ℕ × List ℕ) → Front
string_front n None = no_front
string_front n (Some s) = token (string s.0) (n - length s.1)

abbrev pub atom_front : (n : ℕ) → List ℕ → Front
atom_front n bs = token (atom (take n bs)) n

-- No reading asks for the front of an empty text.
abbrev pub front_of : List ℕ → Front
front_of [] = no_front
front_of (b ∷ bs) =
    if is_blank b then gap 1
    else (if is_atom_byte b then atom_front (prefix_len is_atom_byte (b ∷ bs)) (b ∷ bs)
    else (if b == 40 then open_front bs
    else (if b == 41 then token closes 1
    else (if b == 34 then string_front (1 + length bs) (string_from 0 bs)
    else (if b == 59 then semicolon_front bs else no_front)))))

-- ---- the whole text

-- the tokens of a text, or the offset of the first byte at which no gap and no token begins
abbrev pub Reading : Type 0
Reading = Result (List Token) ℕ

abbrev pub with_first : Token → Reading → Reading
with_first t (Ok ts) = Ok (t ∷ ts)
with_first t (Err at) = Err at

-- The text from an offset on is these tokens with gaps round them, or has its first fault there.
pub data Reads : ℕ → List ℕ → Reading → Type 0 where
  the_end : {at : ℕ} → Reads at [] (Ok [])
  a_fault : {at b : ℕ} {bs : List ℕ} → front_of (b ∷ bs) ≡ no_front → Reads at (b ∷ bs) (Err at)
  a_gap : {at b n : ℕ} {bs : List ℕ} {r : Reading} → front_of (b ∷ bs) ≡ gap n
      → Reads (at + n) (drop n (b ∷ bs)) r
      → Reads at (b ∷ bs) r
  a_token : {at b n : ℕ} {bs : List ℕ} {c : Class} {r : Reading} → front_of (b ∷ bs) ≡ token c n
      → Reads (at + n) (drop n (b ∷ bs)) r
      → Reads at (b ∷ bs) (with_first (record { class = c; at = at }) r)

abbrev pub IsReading : List ℕ → Reading → Type 0
IsReading source r = Reads 0 source r

-- the text is made of these tokens
abbrev pub HasTokens : List ℕ → List Token → Type 0
HasTokens source ts = IsReading source (Ok ts)

-- no gap and no token begins at this offset, and all before it are gaps and tokens
abbrev pub HasNoTokenAt : List ℕ → ℕ → Type 0
HasNoTokenAt source at = IsReading source (Err at)

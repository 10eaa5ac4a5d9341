-- A text as gaps and tokens, each token the longest that begins at its place, or the first fault of the text
-- (ECMA-262, 6th edition, section 11).
use Rattle.std.specs.Prelude.{◌≡◌, ℕ, zero, suc, ◌+◌, Bool, true, false, ◌&&◌, ◌||◌, List, [], ◌∷◌, ◌++◌, length, take, drop, Option, Some, None, is_none, Result, Ok, Err, ◌==◌, if◌then◌else◌}
use Rattle.std.specs.List.{list_any}
use Rattle.asm_lang_tokens.specs.Bytes.{is_ascii, is_name_byte, is_line_end, is_gap_byte}
use Rattle.asm_lang_tokens.specs.Forms.{is_empty, is_token, Kind, name, number, decimal, quoted, punctuator, kind_of, is_comment, begins_separator}

-- the greatest length up to n at which the front passes, or 0
abbrev pub longest : (List ℕ → Bool) → List ℕ → ℕ → ℕ
longest test bs zero = 0
longest test bs (suc n) = if test (take (suc n) bs) then suc n else longest test bs n

-- the longest token at the front, or 0
abbrev pub token_len : List ℕ → ℕ
token_len bs = longest is_token bs (length bs)

-- the longest comment at the front, or 0. Only one front of a text that begins with `/*` is a comment.
abbrev pub comment_len : List ℕ → ℕ
comment_len bs = longest is_comment bs (length bs)

abbrev pub next_place : Option ℕ → Option ℕ
next_place None = None
next_place (Some n) = Some (suc n)

-- the first place from which on the text passes
abbrev pub first_place : (List ℕ → Bool) → List ℕ → Option ℕ
first_place test [] = None
first_place test (b ∷ bs) = if test (b ∷ bs) then Some 0 else next_place (first_place test bs)

-- one byte, or a comment without a line separator
abbrev pub is_gap : List ℕ → Bool
is_gap [] = false
is_gap (b ∷ bs) =
    (is_gap_byte b && is_empty bs) || (is_comment (b ∷ bs) && is_none (first_place begins_separator (b ∷ bs)))

-- ---- what stands at the front of a text

-- in the order in which they count where two stand at one place
pub data Fault : Type 0 where
  non_ascii : Fault  -- a byte above 7F outside comments, or a line separator in a comment
  bad_token : Fault  -- a byte that begins no token
  open_comment : Fault  -- a `/*` with no `*/`
  literal_form : Fault  -- a number or decimal that is followed at once by a name byte or by a dot that isn't its own

-- a gap of n bytes, a token of n bytes, or a fault n bytes on
pub data Front : Type 0 where
  gap : ℕ → Front
  token : Kind → ℕ → Front
  fault : Fault → ℕ → Front

abbrev pub gap_without : ℕ → Option ℕ → Front
gap_without n None = gap n
gap_without n (Some k) = fault non_ascii k

-- a comment of n bytes
abbrev pub comment_at : ℕ → List ℕ → Front
comment_at zero bs = fault open_comment 0
comment_at (suc n) bs = gap_without (suc n) (first_place begins_separator (take (suc n) bs))

abbrev pub is_numeric : Kind → Bool
is_numeric name = false
is_numeric (number n) = true
is_numeric decimal = true
is_numeric quoted = false
is_numeric punctuator = false

-- what may not stand right after a number
abbrev pub runs_on : List ℕ → Bool
runs_on [] = false
runs_on (b ∷ bs) = is_name_byte b || (b == 46)

-- a token of n bytes
abbrev pub token_at : ℕ → List ℕ → Front
token_at zero bs = fault bad_token 0
token_at (suc n) bs =
    if is_numeric (kind_of (take (suc n) bs)) && runs_on (drop (suc n) bs) then fault literal_form 0
    else token (kind_of (take (suc n) bs)) (suc n)

-- `//` or `/*`
abbrev pub begins_comment : List ℕ → Bool
begins_comment [] = false
begins_comment (a ∷ []) = false
begins_comment (a ∷ b ∷ bs) = (a == 47) && ((b == 47) || (b == 42))

-- A gap is taken where one begins. No reading asks for the front of an empty text.
abbrev pub front_of : List ℕ → Front
front_of [] = fault bad_token 0
front_of (b ∷ bs) =
    if is_gap_byte b then gap 1
    else (if begins_comment (b ∷ bs) then comment_at (comment_len (b ∷ bs)) (b ∷ bs)
    else (if is_ascii b then token_at (token_len (b ∷ bs)) (b ∷ bs) else fault non_ascii 0))

-- ---- the whole text

-- a token, its offset, and whether a line end stands between it and the token before it, or before it for the first one
pub record PlacedToken : Type 0 where
  pub kind : Kind
  pub text : List ℕ
  pub at : ℕ
  pub line_before : Bool

pub record PlacedFault : Type 0 where
  pub fault : Fault
  pub at : ℕ

-- the tokens of a text, or its first fault
abbrev pub Reading : Type 0
Reading = Result (List PlacedToken) PlacedFault

abbrev pub with_first : PlacedToken → Reading → Reading
with_first t (Ok ts) = Ok (t ∷ ts)
with_first t (Err f) = Err f

-- The text from an offset on is these tokens with gaps round them, or has this fault as its first. `line` says whether a line
-- end stands before it, after the last token.
pub data Reads : ℕ → Bool → List ℕ → Reading → Type 0 where
  the_end : {at : ℕ} {line : Bool} → Reads at line [] (Ok [])
  a_fault : {at b n : ℕ} {line : Bool} {bs : List ℕ} {f : Fault} → front_of (b ∷ bs) ≡ fault f n
      → Reads at line (b ∷ bs) (Err (record { fault = f; at = at + n }))
  a_gap : {at b n : ℕ} {line : Bool} {bs : List ℕ} {r : Reading} → front_of (b ∷ bs) ≡ gap n
      → Reads (at + n) (line || list_any is_line_end (take n (b ∷ bs))) (drop n (b ∷ bs)) r
      → Reads at line (b ∷ bs) r
  a_token : {at b n : ℕ} {line : Bool} {bs : List ℕ} {k : Kind} {r : Reading} → front_of (b ∷ bs) ≡ token k n
      → Reads (at + n) false (drop n (b ∷ bs)) r
      → Reads at line (b ∷ bs) (with_first (record { kind = k; text = take n (b ∷ bs); at = at; line_before = line }) r)

abbrev pub IsReading : List ℕ → Reading → Type 0
IsReading source r = Reads 0 false source r

-- the first fault of the text, at this offset
abbrev pub HasFault : List ℕ → Fault → ℕ → Type 0
HasFault source f at = IsReading source (Err (record { fault = f; at = at }))

-- ---- what follows for each token and for all together

-- the fact holds of the tokens, if there is no fault
abbrev pub OfTokens : (List PlacedToken → Type 0) → Reading → Type 0
OfTokens P (Ok ts) = P ts
OfTokens P (Err f) = Unit {0}

-- the token's text is the source's at its place
abbrev pub IsAt : List ℕ → PlacedToken → Type 0
IsAt source t = t.text ≡ take (length t.text) (drop t.at source)

-- the token's text has the form of its kind
abbrev pub HasForm : PlacedToken → Type 0
HasForm t = (is_token t.text ≡ true) × (kind_of t.text ≡ t.kind)

-- gaps and the tokens' texts, joined in order, are the text
pub data IsJoined : List ℕ → List PlacedToken → Type 0 where
  nothing : IsJoined [] []
  gap_first : (g : List ℕ) {bs xs : List ℕ} {ts : List PlacedToken} → is_gap g ≡ true → g ++ bs ≡ xs → IsJoined bs ts
      → IsJoined xs ts
  token_first : {bs xs : List ℕ} {t : PlacedToken} {ts : List PlacedToken} → t.text ++ bs ≡ xs → IsJoined bs ts
      → IsJoined xs (t ∷ ts)

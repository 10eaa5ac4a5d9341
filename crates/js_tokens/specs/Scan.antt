-- What the scanning functions find. Only private contracts name these.
use Rattle.std.specs.Prelude.{◌≡◌, ℕ, suc, ◌+◌, ◌*◌, ◌^◌, ◌<◌, ◌≤◌, Bool, false, ◌&&◌, ◌||◌, not, List, [], ◌∷◌, length, take, drop, nat_le, nat_lt, ◌==◌, if◌then◌else◌}
use Rattle.std.specs.List.{prefix_len}
use Rattle.js_tokens.specs.declared.token.TokenKind.{TokenKind}
use Rattle.js_tokens.specs.declared.numbers.Base.{Base}
use Rattle.js_tokens.specs.declared.numbers.Base.TheVariants.{Ten, Sixteen}
use Rattle.js_tokens.specs.declared.fault.TokenFault.{TokenFault}
use Rattle.js_tokens.specs.declared.fault.TokenFault.TheVariants as faults
use Rattle.js_tokens.specs.declared.front.Flaw.{Flaw}
use Rattle.js_tokens.specs.declared.front.Flaw.TheVariants.{NonAscii, BadToken, OpenComment, LiteralForm}
use Rattle.js_tokens.specs.declared.front.Front.{Front}
use Rattle.js_tokens.specs.declared.front.Front.TheVariants as fronts
use Rattle.asm_lang_tokens.specs.Bytes.{is_digit, is_hexadecimal_digit, digit_value, begins_name, is_hexadecimal_mark, is_quote, may_be_quoted}
use Rattle.asm_lang_tokens.specs.Forms.{kind_of}
use Rattle.asm_lang_tokens.specs.Text as text
use Rattle.asm_lang_tokens.specs.Text.{Fault, non_ascii, bad_token, open_comment, literal_form, token_len}
use Rattle.js_tokens.specs.Views.{kind_view}

abbrev pub number_of : Base → ℕ
number_of Ten = 10
number_of Sixteen = 16

abbrev pub is_digit_in : Base → ℕ → Bool
is_digit_in Ten b = is_digit b
is_digit_in Sixteen b = is_hexadecimal_digit b

-- whether it is a digit, and with it the value stays below 2^64
abbrev pub fits_in : Base → ℕ → ℕ → Bool
fits_in base n b = is_digit_in base b && nat_lt (number_of base * n + digit_value b) (2 ^ 64)

-- how many digits stand at the front, as long as the value is below 2^64, after those whose value is n
abbrev pub value_len : Base → ℕ → List ℕ → ℕ
value_len base n [] = 0
value_len base n (b ∷ bs) = if fits_in base n b then suc (value_len base (number_of base * n + digit_value b) bs) else 0

abbrev pub begins_mark : List ℕ → Bool
begins_mark [] = false
begins_mark (b ∷ bs) = is_hexadecimal_mark b

-- a digit other than 0
abbrev pub begins_nonzero : List ℕ → Bool
begins_nonzero [] = false
begins_nonzero (b ∷ bs) = is_digit b && not (b == 48)

-- how many bytes a dot at the front and the digits after it take
abbrev pub fraction_len : List ℕ → ℕ
fraction_len [] = 0
fraction_len (b ∷ bs) = if b == 46 then suc (prefix_len is_digit bs) else 0

abbrev pub begins_with : ℕ → List ℕ → Bool
begins_with a [] = false
begins_with a (b ∷ bs) = b == a

-- how many bytes stand up to the quote q, with it, as long as they may be quoted
abbrev pub quoted_len : ℕ → List ℕ → ℕ
quoted_len q bs = if begins_with q (drop (prefix_len (may_be_quoted q) bs) bs) then suc (prefix_len (may_be_quoted q) bs) else 0

-- a byte that begins no name, number, decimal or quoted text
abbrev pub begins_sign : List ℕ → Bool
begins_sign [] = false
begins_sign (b ∷ bs) = not (((begins_name b || is_digit b) || is_quote b) || (b == 46))

-- ---- punctuators by their length

abbrev pub is_punct1 : ℕ → Bool
is_punct1 a =
    ((a == 33) || (nat_le 37 a && nat_le a 38)) || ((nat_le 40 a && nat_le a 47) || (nat_le 58 a && nat_le a 63))
    || (((a == 91) || (nat_le 93 a && nat_le a 94)) || (nat_le 123 a && nat_le a 126))

abbrev pub takes_equals : ℕ → Bool
takes_equals a =
    (((a == 33) || (nat_le 37 a && nat_le a 38)) || (nat_le 42 a && nat_le a 43))
    || (((a == 45) || (a == 47)) || ((nat_le 60 a && nat_le a 62) || ((a == 94) || (a == 124))))

abbrev pub doubles : ℕ → Bool
doubles a = ((a == 38) || (a == 43)) || (((a == 45) || (a == 60)) || ((a == 62) || (a == 124)))

abbrev pub is_punct2 : ℕ → ℕ → Bool
is_punct2 a b = ((b == 61) && takes_equals a) || (((a == b) && doubles a) || ((a == 61) && (b == 62)))

abbrev pub is_punct3 : ℕ → ℕ → ℕ → Bool
is_punct3 a b c =
    ((c == 61) && (((b == 61) && ((a == 61) || (a == 33))) || ((a == b) && ((a == 60) || (a == 62)))))
    || (((a == 62) && (b == 62)) && (c == 62))

abbrev pub is_punct4 : ℕ → ℕ → ℕ → ℕ → Bool
is_punct4 a b c d = ((a == 62) && (b == 62)) && ((c == 62) && (d == 61))

abbrev pub is_punct : List ℕ → Bool
is_punct [] = false
is_punct (a ∷ []) = is_punct1 a
is_punct (a ∷ b ∷ []) = is_punct2 a b
is_punct (a ∷ b ∷ c ∷ []) = is_punct3 a b c
is_punct (a ∷ b ∷ c ∷ d ∷ []) = is_punct4 a b c d
is_punct (a ∷ b ∷ c ∷ d ∷ e ∷ more) = false

-- ---- the front

-- the longest token of the text
pub record IsToken (bs : List ℕ) (k : TokenKind) (n : ℕ) : Type 0 where
  pub len : token_len bs ≡ n
  pub some : 0 < n
  pub within : n ≤ length bs
  pub kind : kind_of (take n bs) ≡ kind_view k

abbrev pub flaw_view : Flaw → Fault
flaw_view NonAscii = non_ascii
flaw_view BadToken = bad_token
flaw_view OpenComment = open_comment
flaw_view LiteralForm = literal_form

abbrev pub front_view : Front → text.Front
front_view (fronts.Gap n) = text.gap n
front_view (fronts.Token k n) = text.token (kind_view k) n
front_view (fronts.Flaw f n) = text.fault (flaw_view f) n

-- it takes some bytes of the text, or is a flaw within it
abbrev pub IsInside : Front → ℕ → Type 0
IsInside (fronts.Gap n) len = (0 < n) × (n ≤ len)
IsInside (fronts.Token k n) len = (0 < n) × (n ≤ len)
IsInside (fronts.Flaw f n) len = n ≤ len

-- the fault is this flaw at this place
abbrev pub IsFlaw : TokenFault → Flaw → ℕ → Type 0
IsFlaw (faults.NonAscii at) flaw place = (flaw_view flaw ≡ non_ascii) × (at ≡ place)
IsFlaw (faults.BadToken at) flaw place = (flaw_view flaw ≡ bad_token) × (at ≡ place)
IsFlaw (faults.OpenComment at) flaw place = (flaw_view flaw ≡ open_comment) × (at ≡ place)
IsFlaw (faults.LiteralForm at) flaw place = (flaw_view flaw ≡ literal_form) × (at ≡ place)
IsFlaw faults.Memory flaw place = ⊥

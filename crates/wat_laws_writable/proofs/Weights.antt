-- A text has at most as many tokens as bytes, its strings are of bytes, and what its fields hold is no more than what it has.
use Rattle.std.proofs.Common.{◌≡◌, inl, inr, ℕ, ltb, leb, zero, suc, ◌+◌, ◌*◌, ◌/◌, ◌<◌, ◌≤◌, Bool, true, false, ◌&&◌, ◌||◌, cond, List, [], ◌∷◌, ◌++◌, length, take, drop, Option, Some, None, option_map, Ok, Err, if◌then◌else◌, ◌==◌, refl, ap, subst, arith, length-append, length-drop}
use Rattle.std.specs.List.{AllByRecursion, prefix_len}
use Rattle.std.proofs.lemmas.Bool.{and_parts, or_cases, leb-true, ltb-true, lt-leb}
use Rattle.std.proofs.lemmas.List.{length-take}
use Rattle.std.proofs.lemmas.List.Sums.{prefix_len-le-length}
use Rattle.std.proofs.Math.Utf8.{encode, next}
use Rattle.std.specs.Char.{encode_utf8, len_utf8}
use Rattle.std.proofs.lemmas.Str.{length-encode}
use Rattle.wat_lang.specs.Tokens.{opens, closes, Token, is_blank, is_atom_byte, is_hexadecimal_digit, digit_value, is_string_byte, is_scalar, value_in, begins_with, Piece, quote, character, no_piece, unicode_piece, brace_piece, byte_piece, escaped, escape_piece, piece_of, put_value, string_from, comment_rest, is_no_line_feed, Front, gap, no_front, semicolon_front, comment_front, open_front, string_front, atom_front, front_of, with_first, Reads, the_end, a_fault, a_gap, a_token}
use Rattle.wat_lang.specs.Tokens as spec
use Rattle.wat_lang.specs.Grammar.{Item, Marked, Derives, all_done, one_token, goes_on, ends}
use Rattle.wat_lang.specs.Names.{bytes_of, text_of, Field, Cut, cut, fields_of}
use Rattle.wat_lang.specs.Texts.{IsMarked}
use Rattle.wasm_laws_write.specs.Lengths.{total}
use Rattle.wat_laws_read.proofs.Cuts.{cut_cases}

abbrev pub AreBytes : List ℕ → Type 0
AreBytes bytes = AllByRecursion (λ b. b < 256) bytes

-- ---- strings

abbrev PieceFits : (left : List ℕ) → Piece → Type 0
PieceFits left quote = Unit {0}
PieceFits left (character v n) = (length v ≤ n + 1) × (AreBytes left → AreBytes v)
PieceFits left no_piece = Unit {0}

if_fits : (left : List ℕ) (t : Bool) (x y : Piece) → (t ≡ true → PieceFits left x) → (t ≡ false → PieceFits left y) → PieceFits left (if t then x else y)
if_fits left true x y h k = h refl
if_fits left false x y h k = k refl

-- ---- bytes of escapes

cond_bytes : (t : Bool) (xs ys : List ℕ) → (t ≡ true → AreBytes xs) → (t ≡ false → AreBytes ys) → AreBytes (cond t xs ys)
cond_bytes true xs ys h k = h refl
cond_bytes false xs ys h k = k refl

abbrev two_bytes : ℕ → List ℕ
two_bytes c = (192 + c / 64) ∷ next c ∷ []

abbrev three_bytes : ℕ → List ℕ
three_bytes c = (224 + c / 4096) ∷ next (c / 64) ∷ next c ∷ []

abbrev four_bytes : ℕ → List ℕ
four_bytes c = (240 + c / 262144) ∷ next (c / 4096) ∷ next (c / 64) ∷ next c ∷ []

encoded_bytes : (c : ℕ) → c < 1114112 → AreBytes (encode_utf8 c)
unfolding encode
encoded_bytes c h =
    cond_bytes (ltb c 128) (c ∷ []) (cond (ltb c 2048) (two_bytes c) (cond (ltb c 65536) (three_bytes c) (four_bytes c))) (λ e. (let low = ltb-true c 128 e in omega (arith, low), tt))
    (λ e1. cond_bytes (ltb c 2048) (two_bytes c) (cond (ltb c 65536) (three_bytes c) (four_bytes c)) (λ e. (let low = ltb-true c 2048 e in omega (arith, low), (omega arith, tt)))
    (λ e2. cond_bytes (ltb c 65536) (three_bytes c) (four_bytes c) (λ e. (let low = ltb-true c 65536 e in omega (arith, low), (omega arith, (omega arith, tt))))
    (λ e3. (omega (arith, h), (omega arith, (omega arith, (omega arith, tt)))))))

encoded_short : (c : ℕ) → length (encode_utf8 c) ≤ 4
encoded_short c = let e : length (encode_utf8 c) ≡ len_utf8 c = length-encode c in let few = by (ltb c 128) (ltb c 2048) (ltb c 65536) in omega (arith, e, few)
  where
    by : (t u v : Bool) → cond t 1 (cond u 2 (cond v 3 4)) ≤ 4
    by true u v = omega arith
    by false true v = omega arith
    by false false true = omega arith
    by false false false = omega arith

scalar_low : (c : ℕ) → is_scalar c ≡ true → c < 1114112
scalar_low c e = elim (or_cases (ltb c 0xd800) (leb 0xe000 c && ltb c 0x110000) e) [
  | inl low ↦ (let h = ltb-true c 0xd800 low in omega (arith, h))
  | inr high ↦ ltb-true c 0x110000 (and_parts (leb 0xe000 c) (ltb c 0x110000) high).1
]

hexadecimal_low : (d : ℕ) → is_hexadecimal_digit d ≡ true → digit_value d < 16
hexadecimal_low d e = elim (or_cases (leb 48 d && leb d 57) ((leb 97 d && leb d 102) || (leb 65 d && leb d 70)) e) [
  | inl h ↦ (let p = and_parts (leb 48 d) (leb d 57) h in let up = leb-true d 57 p.1 in rw (lt-leb 97 d (omega (arith, up)), lt-leb 65 d (omega (arith, up))) (omega (arith, up)))
  | inr h ↦ elim (or_cases (leb 97 d && leb d 102) (leb 65 d && leb d 70) h) [
    | inl k ↦ (let p = and_parts (leb 97 d) (leb d 102) k in let up = leb-true d 102 p.1 in rw p.0 (omega (arith, up)))
    | inr k ↦ (let p = and_parts (leb 65 d) (leb d 70) k in let up = leb-true d 70 p.1 in rw (lt-leb 97 d (omega (arith, up)), p.0) (omega (arith, up)))
  ]
]

escaped_low : (b v : ℕ) → b < 256 → escaped b ≡ Some v → v < 256
escaped_low b v h e = by (b == 116) (b == 110) (b == 114) (((b == 34) || (b == 39)) || (b == 92)) e
  where
    by : (t u w x : Bool) → (if t then Some 9 else (if u then Some 10 else (if w then Some 13 else (if x then Some b else None)))) ≡ Some v → v < 256
    by true u w x e = let same : 9 ≡ v = cc in omega (arith, same)
    by false true w x e = let same : 10 ≡ v = cc in omega (arith, same)
    by false false true x e = let same : 13 ≡ v = cc in omega (arith, same)
    by false false false true e = let same : b ≡ v = cc in omega (arith, same, h)
    by false false false false e = absurd cc

-- ---- the pieces of a string

unicode_fits : (left : List ℕ) (k : ℕ) (bs : List ℕ) → PieceFits left (unicode_piece k bs)
unicode_fits left k bs =
    if_fits left ((ltb 0 k && begins_with 125 (drop k bs)) && is_scalar (value_in 16 0 (take k bs))) (character (encode_utf8 (value_in 16 0 (take k bs))) (k + 3)) no_piece
    (λ e. (let short = encoded_short (value_in 16 0 (take k bs)) in omega (arith, short), λ a. encoded_bytes (value_in 16 0 (take k bs)) (scalar_low (value_in 16 0 (take k bs)) (and_parts (ltb 0 k && begins_with 125 (drop k bs)) (is_scalar (value_in 16 0 (take k bs))) e).1)))
    (λ e. tt)

brace_fits : (left bs : List ℕ) → PieceFits left (brace_piece bs)
brace_fits left bs =
    if_fits left (begins_with 123 bs) (unicode_piece (prefix_len is_hexadecimal_digit (drop 1 bs)) (drop 1 bs)) no_piece (λ e. unicode_fits left (prefix_len is_hexadecimal_digit (drop 1 bs)) (drop 1 bs)) (λ e. tt)

byte_fits : (left bs : List ℕ) → PieceFits left (byte_piece bs)
byte_fits left [] = tt
byte_fits left (a ∷ []) = tt
byte_fits left (a ∷ b ∷ bs) =
    if_fits left (is_hexadecimal_digit a && is_hexadecimal_digit b) (character ((16 * digit_value a + digit_value b) ∷ []) 2) no_piece
    (λ e. (omega arith, λ x. (let p = and_parts (is_hexadecimal_digit a) (is_hexadecimal_digit b) e in let h = hexadecimal_low a p.0 in let k = hexadecimal_low b p.1 in omega (arith, h, k), tt))) (λ e. tt)

escape_fits : (first : ℕ) (bs : List ℕ) → PieceFits (first ∷ bs) (escape_piece bs)
escape_fits first [] = tt
escape_fits first (b ∷ bs) = by (escaped b) refl
  where
    by : (o : Option ℕ) → escaped b ≡ o → PieceFits (first ∷ b ∷ bs) (elim o [ Some v ↦ character (v ∷ []) 1 | None ↦ if b == 117 then brace_piece bs else byte_piece (b ∷ bs) ])
    by (Some v) e = (omega arith, λ a. (escaped_low b v a.1.0 e, tt))
    by None e = if_fits (first ∷ b ∷ bs) (b == 117) (brace_piece bs) (byte_piece (b ∷ bs)) (λ u. brace_fits (first ∷ b ∷ bs) bs) (λ u. byte_fits (first ∷ b ∷ bs) (b ∷ bs))

piece_fits : (left : List ℕ) → PieceFits left (piece_of left)
piece_fits [] = tt
piece_fits (b ∷ bs) =
    if_fits (b ∷ bs) (b == 34) quote (if b == 92 then escape_piece bs else (if is_string_byte b then character (b ∷ []) 0 else no_piece)) (λ e. tt)
    (λ e. if_fits (b ∷ bs) (b == 92) (escape_piece bs) (if is_string_byte b then character (b ∷ []) 0 else no_piece) (λ e. escape_fits b bs)
    (λ e. if_fits (b ∷ bs) (is_string_byte b) (character (b ∷ []) 0) no_piece (λ e. (omega arith, λ a. (a.0, tt))) (λ e. tt)))

bytes_joined : (xs ys : List ℕ) → AreBytes xs → AreBytes ys → AreBytes (xs ++ ys)
bytes_joined [] ys a b = b
bytes_joined (x ∷ xs) ys a b = (a.0, bytes_joined xs ys a.1 b)

abbrev StringFits : ℕ → List ℕ → List ℕ × List ℕ → Type 0
StringFits n bs s = (length s.0 + length s.1 + n + 1 ≤ length bs) × (AreBytes bs → AreBytes s.0)

string_fits : (n : ℕ) (bs : List ℕ) (s : List ℕ × List ℕ) → string_from n bs ≡ Some s → StringFits n bs s
string_fits n [] s e = absurd cc
string_fits (suc n) (b ∷ bs) s e = let h = string_fits n bs s e in let few = h.0 in (omega (arith, few), λ a. h.1 a.1)
string_fits zero (b ∷ bs) s e = by (λ k u f. string_fits k bs u f) (piece_of (b ∷ bs)) (piece_fits (b ∷ bs)) e
  where
    under : (v : List ℕ) (k : ℕ) → PieceFits (b ∷ bs) (character v k) → (x : Option (List ℕ × List ℕ)) → ((u : List ℕ × List ℕ) → x ≡ Some u → StringFits k bs u) → option_map (put_value v) x ≡ Some s → StringFits 0 (b ∷ bs) s
    under v k p None below e = absurd cc
    under v k p (Some u) below e =
        let same : put_value v u ≡ s = cc in
        let h = below u refl in
        let few = h.0 in let short = p.0 in
        let both = length-append v u.0 in
        subst (StringFits 0 (b ∷ bs)) same (omega (arith, few, short, both), λ a. bytes_joined v u.0 (p.1 a) (h.1 a.1))

    by : ((k : ℕ) (u : List ℕ × List ℕ) → string_from k bs ≡ Some u → StringFits k bs u) → (p : Piece) → PieceFits (b ∷ bs) p
        → elim p [ quote ↦ Some ([], bs) | character v n ↦ option_map (put_value v) (string_from n bs) | no_piece ↦ None ] ≡ Some s → StringFits 0 (b ∷ bs) s
    by below quote p e = let same : (let t : List ℕ × List ℕ = ([], bs) in t) ≡ s = cc in subst (StringFits 0 (b ∷ bs)) same (omega arith, λ a. tt)
    by below (character v k) p e = under v k p (string_from k bs) (below k) e
    by below no_piece p e = absurd cc

-- ---- what stands at the front

abbrev FrontFits : List ℕ → Front → Type 0
FrontFits left (spec.token c n) = (1 ≤ n) × (n ≤ length left) × (length (bytes_of c) ≤ n) × (AreBytes left → AreBytes (bytes_of c))
FrontFits left f = Unit {0}

if_front : (left : List ℕ) (t : Bool) (x y : Front) → (t ≡ true → FrontFits left x) → (t ≡ false → FrontFits left y) → FrontFits left (if t then x else y)
if_front left true x y h k = h refl
if_front left false x y h k = k refl

taken_bytes : (n : ℕ) (bs : List ℕ) → AreBytes bs → AreBytes (take n bs)
taken_bytes zero bs a = tt
taken_bytes (suc n) [] a = tt
taken_bytes (suc n) (b ∷ bs) a = (a.0, taken_bytes n bs a.1)

some_atom : (b : ℕ) (bs : List ℕ) → is_atom_byte b ≡ true → 1 ≤ prefix_len is_atom_byte (b ∷ bs)
some_atom b bs e = rw e (omega arith)

atom_fits : (b : ℕ) (bs : List ℕ) → is_atom_byte b ≡ true → FrontFits (b ∷ bs) (atom_front (prefix_len is_atom_byte (b ∷ bs)) (b ∷ bs))
atom_fits b bs e =
    let n = prefix_len is_atom_byte (b ∷ bs) in
    let some = some_atom b bs e in
    let within = prefix_len-le-length is_atom_byte (b ∷ bs) in
    let long = length-take n (b ∷ bs) in
    (some, within, omega (arith, long), taken_bytes n (b ∷ bs))

string_front_fits : (b : ℕ) (bs : List ℕ) → FrontFits (b ∷ bs) (string_front (1 + length bs) (string_from 0 bs))
string_front_fits b bs = by (string_from 0 bs) refl
  where
    by : (x : Option (List ℕ × List ℕ)) → string_from 0 bs ≡ x → FrontFits (b ∷ bs) (string_front (1 + length bs) x)
    by None e = tt
    by (Some s) e = let h = string_fits 0 bs s e in let few = h.0 in (omega (arith, few), omega arith, omega (arith, few), λ a. h.1 a.1)

comment_fits : (left : List ℕ) (n : ℕ) (o : Option (List ℕ)) → FrontFits left (comment_front n o)
comment_fits left n None = tt
comment_fits left n (Some rest) = tt

front_fits : (b : ℕ) (bs : List ℕ) → FrontFits (b ∷ bs) (front_of (b ∷ bs))
front_fits b bs =
    if_front (b ∷ bs) (is_blank b) (gap 1) (if is_atom_byte b then atom_front (prefix_len is_atom_byte (b ∷ bs)) (b ∷ bs) else (if b == 40 then open_front bs else (if b == 41 then spec.token closes 1 else (if b == 34 then string_front (1 + length bs) (string_from 0 bs) else (if b == 59 then semicolon_front bs else no_front))))) (λ e. tt)
    (λ e. if_front (b ∷ bs) (is_atom_byte b) (atom_front (prefix_len is_atom_byte (b ∷ bs)) (b ∷ bs)) (if b == 40 then open_front bs else (if b == 41 then spec.token closes 1 else (if b == 34 then string_front (1 + length bs) (string_from 0 bs) else (if b == 59 then semicolon_front bs else no_front)))) (atom_fits b bs)
    (λ e. if_front (b ∷ bs) (b == 40) (open_front bs) (if b == 41 then spec.token closes 1 else (if b == 34 then string_front (1 + length bs) (string_from 0 bs) else (if b == 59 then semicolon_front bs else no_front)))
    (λ e. if_front (b ∷ bs) (begins_with 59 bs) (comment_front (1 + length bs) (comment_rest 0 (drop 1 bs))) (spec.token opens 1) (λ e. comment_fits (b ∷ bs) (1 + length bs) (comment_rest 0 (drop 1 bs))) (λ e. (omega arith, omega arith, omega arith, λ a. tt)))
    (λ e. if_front (b ∷ bs) (b == 41) (spec.token closes 1) (if b == 34 then string_front (1 + length bs) (string_from 0 bs) else (if b == 59 then semicolon_front bs else no_front)) (λ e. (omega arith, omega arith, omega arith, λ a. tt))
    (λ e. if_front (b ∷ bs) (b == 34) (string_front (1 + length bs) (string_from 0 bs)) (if b == 59 then semicolon_front bs else no_front) (λ e. string_front_fits b bs)
    (λ e. if_front (b ∷ bs) (b == 59) (semicolon_front bs) no_front (λ e. if_front (b ∷ bs) (begins_with 59 bs) (gap (2 + prefix_len is_no_line_feed (drop 1 bs))) no_front (λ e. tt) (λ e. tt)) (λ e. tt))))))

-- ---- texts

abbrev token_weight : Token → ℕ
token_weight t = 1 + length (bytes_of t.class)

abbrev HasBytes : Token → Type 0
HasBytes t = AreBytes (bytes_of t.class)

abbrev ReadingFits : List ℕ → spec.Reading → Type 0
ReadingFits bs (Ok ts) = (total token_weight ts ≤ 2 * length bs) × (AreBytes bs → AllByRecursion HasBytes ts)
ReadingFits bs (Err at) = Unit {0}

dropped_bytes : (n : ℕ) (bs : List ℕ) → AreBytes bs → AreBytes (drop n bs)
dropped_bytes zero bs a = a
dropped_bytes (suc n) [] a = tt
dropped_bytes (suc n) (b ∷ bs) a = dropped_bytes n bs a.1

reading_fits : {at : ℕ} {bs : List ℕ} {r : spec.Reading} → Reads at bs r → ReadingFits bs r
reading_fits the_end = (omega arith, λ a. tt)
reading_fits (a_fault e) = tt
reading_fits (a_gap {b = b} {n = n} {bs = bs} {r = r} e h) = by r (reading_fits h)
  where
    by : (r : spec.Reading) → ReadingFits (drop n (b ∷ bs)) r → ReadingFits (b ∷ bs) r
    by (Ok ts) f = let few = f.0 in let less = length-drop n (b ∷ bs) in (omega (arith, few, less), λ a. f.1 (dropped_bytes n (b ∷ bs) a))
    by (Err at) f = tt
reading_fits (a_token {at = at} {b = b} {n = n} {bs = bs} {c = c} {r = r} e h) = by r (reading_fits h) (subst (FrontFits (b ∷ bs)) e (front_fits b bs))
  where
    by : (r : spec.Reading) → ReadingFits (drop n (b ∷ bs)) r → FrontFits (b ∷ bs) (spec.token c n) → ReadingFits (b ∷ bs) (with_first (record { class = c; at = at }) r)
    by (Ok ts) f p =
        let few = f.0 in let less = length-drop n (b ∷ bs) in let some = p.0 in let within = p.1 in let short = p.2 in
        (omega (arith, few, less, some, within, short), λ a. (p.3 a, f.1 (dropped_bytes n (b ∷ bs) a)))
    by (Err at) f p = tt

-- ---- marks

abbrev pub mark_weight : Marked → ℕ
mark_weight m = 1 + length (text_of m)

-- its marks and the bytes of their tokens
abbrev pub weight : List Marked → ℕ
weight ms = total mark_weight ms

abbrev pub IsOfBytes : Marked → Type 0
IsOfBytes m = AreBytes (text_of m)

derived_weight : {is : List Item} {ms : List Marked} {ts : List Token} → Derives is ms ts → weight ms ≡ total token_weight ts
derived_weight all_done = refl
derived_weight (one_token {t = t} e d) = ap (λ n. token_weight t + n) (derived_weight d)
derived_weight (goes_on {t = t} i e d) = ap (λ n. token_weight t + n) (derived_weight d)
derived_weight (ends m b d) = derived_weight d

derived_bytes : {is : List Item} {ms : List Marked} {ts : List Token} → Derives is ms ts → AllByRecursion HasBytes ts → AllByRecursion IsOfBytes ms
derived_bytes all_done a = tt
derived_bytes (one_token e d) a = (a.0, derived_bytes d a.1)
derived_bytes (goes_on i e d) a = (a.0, derived_bytes d a.1)
derived_bytes (ends m b d) a = derived_bytes d a

pub marks_light : (text : List ℕ) (ms : List Marked) → IsMarked text ms → weight ms ≤ 2 * length text
marks_light text ms h = let few = (reading_fits h.is_reading).0 in let same = derived_weight h.is_grammatical in omega (arith, few, same)

pub marks_of_bytes : (text : List ℕ) (ms : List Marked) → AreBytes text → IsMarked text ms → AllByRecursion IsOfBytes ms
marks_of_bytes text ms a h = derived_bytes h.is_grammatical ((reading_fits h.is_reading).1 a)

-- ---- fields

abbrev pub field_weight : Field → ℕ
field_weight f = 1 + weight f.parts

cut_light : (ms : List Marked) → weight (cut ms).0 + total field_weight (cut ms).1 ≤ weight ms
cut_light [] = omega arith
cut_light (m ∷ ms) =
    let less = cut_light ms in
    cut_cases m (cut ms) (λ (c : Cut). weight c.0 + total field_weight c.1 ≤ weight (m ∷ ms)) (λ kind e. omega (arith, less)) (omega (arith, less))

pub fields_light : (ms : List Marked) → total field_weight (fields_of ms) ≤ weight ms
fields_light ms = let less = cut_light ms in omega (arith, less)

-- Fronts of a text take some of its bytes.
use Rattle.std.proofs.Common.{◌≡◌, ℕ, ◌+◌, ◌-◌, ◌<◌, ◌≤◌, Bool, true, false, List, [], ◌∷◌, length, get_or, suc, take, drop, Option, Some, None, refl, sym, ap, ◌∙◌, arith, drop-cons}
use Rattle.std.specs.Prelude.{◌==◌, if◌then◌else◌}
use Rattle.std.specs.List.{prefix_len}
use Rattle.std.proofs.lemmas.List.{length-drop}
use Rattle.std.proofs.lemmas.List.Sums.{prefix_len-le-length, prefix_len-drop_yes}
use Rattle.std.proofs.lemmas.Bool.{eqb-true, false≢true}
use Rattle.wat_lang.specs.Tokens.{Front, gap, token, no_front, Class, opens, closes, string, atom, is_blank, is_atom_byte, is_no_line_feed, begins_with, comment_rest, string_from, comment_front, open_front, string_front, semicolon_front, atom_front, front_of}
use Rattle.wat_tokens.specs.declared.pieces.Piece.{Piece}
use Rattle.wat_tokens.specs.declared.pieces.Piece.TheVariants as pieces
use Rattle.wat_tokens.specs.declared.front.Front.{Front as CodeFront}
use Rattle.wat_tokens.specs.declared.front.Front.TheVariants as fronts
use Rattle.wat_tokens.specs.Fronts.{Fits}
use Rattle.wat_tokens.specs.Views.{class_of, front_view, IsInside}
use Rattle.wat_tokens.specs.Closed.{IsClosed, value_of}
use Rattle.wat_tokens.proofs.Pairs as comments
use Rattle.wat_tokens.proofs.PieceSteps as strings

-- it takes some of so many bytes
abbrev pub Inside : Front → ℕ → Type 0
Inside (gap n) len = (0 < n) × (n ≤ len)
Inside (token c n) len = (0 < n) × (n ≤ len)
Inside no_front len = Unit {0}

choose : (b : Bool) (x y : Front) (len : ℕ) → (b ≡ true → Inside x len) → Inside y len → Inside (if b then x else y) len
choose true x y len h k = h refl
choose false x y len h k = k

atom_inside : (b : ℕ) (bs : List ℕ) → is_atom_byte b ≡ true → Inside (atom_front (prefix_len is_atom_byte (b ∷ bs)) (b ∷ bs)) (length (b ∷ bs))
atom_inside b bs is =
    let len : prefix_len is_atom_byte (b ∷ bs) ≡ 1 + prefix_len is_atom_byte bs = rw is refl in
    let le = prefix_len-le-length is_atom_byte bs in
    (omega (arith, len), omega (arith, len, le))

comment_inside : (bs : List ℕ) → Inside (comment_front (1 + length bs) (comment_rest 0 (drop 1 bs))) (length (0 ∷ bs))
comment_inside bs = by (comment_rest 0 (drop 1 bs)) refl
  where
    by : (o : Option (List ℕ)) → comment_rest 0 (drop 1 bs) ≡ o → Inside (comment_front (1 + length bs) o) (length (0 ∷ bs))
    by None e = tt
    by (Some rest) e = let le = comments.rest_len 0 (drop 1 bs) rest e in let len = length-drop 1 bs in (omega (arith, le, len), omega (arith, le, len))

string_inside : (bs : List ℕ) → Inside (string_front (1 + length bs) (string_from 0 bs)) (length (0 ∷ bs))
string_inside bs = by (string_from 0 bs) refl
  where
    by : (o : Option (List ℕ × List ℕ)) → string_from 0 bs ≡ o → Inside (string_front (1 + length bs) o) (length (0 ∷ bs))
    by None e = tt
    by (Some s) e = let le = strings.rest_len 0 bs s e in (omega (arith, le), omega (arith, le))

semicolon_inside : (bs : List ℕ) → Inside (semicolon_front bs) (length (0 ∷ bs))
semicolon_inside [] = tt
semicolon_inside (b ∷ bs) =
    choose (b == 59) (gap (2 + prefix_len is_no_line_feed bs)) no_front (length (0 ∷ b ∷ bs))
    (λ is. (let le = prefix_len-le-length is_no_line_feed bs in (omega arith, omega (arith, le)))) tt

pub front_inside : (bs : List ℕ) → Inside (front_of bs) (length bs)
front_inside [] = tt
front_inside (b ∷ bs) =
    choose (is_blank b) _ _ (length (b ∷ bs)) (λ is. (omega arith, omega arith))
    (choose (is_atom_byte b) _ _ (length (b ∷ bs)) (atom_inside b bs)
    (choose (b == 40) _ _ (length (b ∷ bs)) (λ is. choose (begins_with 59 bs) _ _ (length (b ∷ bs)) (λ e. comment_inside bs) (omega arith, omega arith))
    (choose (b == 41) _ _ (length (b ∷ bs)) (λ is. (omega arith, omega arith))
    (choose (b == 34) _ _ (length (b ∷ bs)) (λ is. string_inside bs)
    (choose (b == 59) _ _ (length (b ∷ bs)) (λ is. semicolon_inside bs) tt)))))

pub gap_inside : (bs : List ℕ) (n : ℕ) → gap n ≡ front_of bs → (0 < n) × (n ≤ length bs)
gap_inside bs n e = rw (sym e) at (front_inside bs)

pub token_inside : (bs : List ℕ) (c : Class) (n : ℕ) → token c n ≡ front_of bs → (0 < n) × (n ≤ length bs)
token_inside bs c n e = rw (sym e) at (front_inside bs)

pub view_inside : (f : CodeFront) (bs : List ℕ) → front_view f ≡ front_of bs → IsInside f (length bs)
view_inside (fronts.Gap n) bs e = gap_inside bs n e
view_inside (fronts.Token class n) bs e = token_inside bs (class_of class) n e
view_inside fronts.Nothing bs e = tt

-- ---- what the code finds

one_front : (s : List ℕ) (n : ℕ) → n < length s → drop n s ≡ get_or s n 0 ∷ drop (n + 1) s
one_front s n lt = let next : suc n ≡ n + 1 = omega arith in drop-cons s n 0 lt ∙ ap (λ j. get_or s n 0 ∷ drop j s) next

atom_no_blank : (b : ℕ) → is_atom_byte b ≡ true → is_blank b ≡ false
atom_no_blank b is = by (b == 32) (b == 9) (b == 10) (b == 13) refl refl refl refl
  where
    none : (n : ℕ) → (b == n) ≡ true → is_atom_byte n ≡ false → is_blank b ≡ false
    none n e other = absurd (false≢true (sym (ap is_atom_byte (eqb-true b n e) ∙ other) ∙ is))

    by : (t u v w : Bool) → (b == 32) ≡ t → (b == 9) ≡ u → (b == 10) ≡ v → (b == 13) ≡ w → is_blank b ≡ false
    by true u v w e f g h = none 32 e refl
    by false true v w e f g h = none 9 f refl
    by false false true w e f g h = none 10 g refl
    by false false false true e f g h = none 13 h refl
    by false false false false e f g h = rw (e, f, g, h) refl

atom_begins : (b : ℕ) (bs : List ℕ) → is_atom_byte b ≡ true → atom_front (prefix_len is_atom_byte (b ∷ bs)) (b ∷ bs) ≡ front_of (b ∷ bs)
atom_begins b bs is = rw (atom_no_blank b is) (rw is refl)

pub atom_up_to : (s : List ℕ) (n end : ℕ) → n < length s → is_atom_byte (get_or s n 0) ≡ true → end ≡ (n + 1) + prefix_len is_atom_byte (drop (n + 1) s)
    → token (atom (take (end - n) (drop n s))) (end - n) ≡ front_of (drop n s)
atom_up_to s n end lt is e =
    let first = prefix_len-drop_yes is_atom_byte s n 0 lt is in
    let len : end - n ≡ prefix_len is_atom_byte (drop n s) = omega (arith, first, e) in
    let here = one_front s n lt in
    ap (λ k. atom_front k (drop n s)) len ∙ (ap (λ bs. atom_front (prefix_len is_atom_byte bs) bs) here ∙ (atom_begins (get_or s n 0) (drop (n + 1) s) is ∙ ap front_of (sym here)))

opens_here : (bs : List ℕ) → begins_with 59 bs ≡ false → token opens 1 ≡ front_of (40 ∷ bs)
opens_here bs e = rw e refl

pub opens_at : (s : List ℕ) (n : ℕ) → n < length s → get_or s n 0 ≡ 40 → begins_with 59 (drop (n + 1) s) ≡ false → token opens 1 ≡ front_of (drop n s)
opens_at s n lt is e = opens_here (drop (n + 1) s) e ∙ ap front_of (sym (one_front s n lt ∙ ap (λ b. b ∷ drop (n + 1) s) is))

closes_here : (bs : List ℕ) → token closes 1 ≡ front_of (41 ∷ bs)
closes_here bs = refl

pub closes_at : (s : List ℕ) (n : ℕ) → n < length s → get_or s n 0 ≡ 41 → token closes 1 ≡ front_of (drop n s)
closes_at s n lt is = closes_here (drop (n + 1) s) ∙ ap front_of (sym (one_front s n lt ∙ ap (λ b. b ∷ drop (n + 1) s) is))

-- a comment of n bytes behind `(;`
pub commented : (bs : List ℕ) (n : ℕ) → n ≤ length bs → comment_rest 0 bs ≡ Some (drop n bs) → gap (n + 2) ≡ open_front (59 ∷ bs)
commented bs n le e = rw e (ap gap (omega (arith, le, length-drop n bs)))

pub uncommented : (bs : List ℕ) → comment_rest 0 bs ≡ None → no_front ≡ open_front (59 ∷ bs)
uncommented bs e = rw e refl

-- a string of n bytes up to its closing quote
pub quoted : (bs : List ℕ) (n : ℕ) (plain : Bool) → IsClosed bs n plain → token (string (value_of bs)) ((n + 1) + 1) ≡ string_front (1 + length bs) (string_from 0 bs)
quoted bs n plain c =
    let len : (n + 1) + 1 ≡ (1 + length bs) - length (drop (n + 1) bs) = omega (arith, c.within, length-drop (n + 1) bs) in
    rw (c.is) (ap (token (string (value_of bs))) len)

-- a piece behind one more byte
pub fits_behind : (p : Piece) (before b : ℕ) (bs : List ℕ) → Fits p (before + 1) bs → Fits p before (b ∷ bs)
fits_behind pieces.Quote before b bs f = absurd (omega (arith, f.0))
fits_behind (pieces.Byte v) before b bs f = absurd (omega (arith, f.0))
fits_behind (pieces.Escape v n) before b bs f = (omega (arith, f.0), f.1)
fits_behind (pieces.Scalar c n) before b bs f = (omega (arith, f.0), f.1, f.2)
fits_behind pieces.Bad before b bs f = tt

-- Strings, piece by piece.
use Rattle.std.proofs.Common.{◌≡◌, ℕ, zero, suc, ◌+◌, ◌-◌, ◌<◌, ◌≤◌, Bool, true, false, List, [], ◌∷◌, ◌++◌, length, get_or, take, drop, Option, Some, None, refl, sym, ap, subst, ◌∙◌, arith, append_assoc, append-nil, drop-cons, length-append}
use Rattle.std.specs.Prelude.{◌&&◌, not, ◌==◌, if◌then◌else◌, option_map, encode_utf8}
use Rattle.std.specs.List.{prefix_len}
use Rattle.std.proofs.lemmas.List.{take_more, length-drop, length-take-le, drop-drop, get_or-drop}
use Rattle.std.proofs.lemmas.List.Sums.{prefix_len-drop_yes, prefix_len_passes}
use Rattle.std.proofs.lemmas.Str.{length-encode, len_utf8_bounds}
use Rattle.wat_lang.specs.Tokens.{Piece, quote, character, no_piece, piece_of, escape_piece, is_string_byte, string_from, put_value}
use Rattle.wat_tokens.specs.Fronts.{is_plain}
use Rattle.wat_tokens.specs.Closed.{value_in, value_of, quoted_in, EndsAt, IsClosed, IsClosedSomewhere, Passed, Scanned}

pub skip : (n : ℕ) (bs : List ℕ) → string_from n bs ≡ string_from 0 (drop n bs)
skip zero bs = refl
skip (suc n) [] = refl
skip (suc n) (b ∷ bs) = skip n bs

put_twice : (a v : List ℕ) (x : Option (List ℕ × List ℕ)) → option_map (put_value a) (option_map (put_value v) x) ≡ option_map (put_value (a ++ v)) x
put_twice a v None = refl
put_twice a v (Some s) = let e : (a ++ v) ++ s.0 ≡ a ++ (v ++ s.0) = append_assoc a v s.0 in ap (λ (w : List ℕ). let o : Option (List ℕ × List ℕ) = Some (w, s.1) in o) (sym e)

put_nothing : (x : Option (List ℕ × List ℕ)) → x ≡ option_map (put_value []) x
put_nothing None = refl
put_nothing (Some s) = refl

abbrev step : List ℕ → Piece → Option (List ℕ × List ℕ)
step bs p = elim p [ quote ↦ Some ([], bs) | character v n ↦ option_map (put_value v) (string_from n bs) | no_piece ↦ None ]

step_eq : (b : ℕ) (bs v : List ℕ) (n : ℕ) → piece_of (b ∷ bs) ≡ character v n → string_from 0 (b ∷ bs) ≡ option_map (put_value v) (string_from n bs)
step_eq b bs v n e = ap (step bs) e

quote_eq : (b : ℕ) (bs : List ℕ) → piece_of (b ∷ bs) ≡ quote → string_from 0 (b ∷ bs) ≡ Some ([], bs)
quote_eq b bs e = ap (step bs) e

none_eq : (b : ℕ) (bs : List ℕ) → piece_of (b ∷ bs) ≡ no_piece → string_from 0 (b ∷ bs) ≡ None
none_eq b bs e = ap (step bs) e

one_front : (s : List ℕ) (n : ℕ) → n < length s → drop n s ≡ get_or s n 0 ∷ drop (n + 1) s
one_front s n lt = let next : suc n ≡ n + 1 = omega arith in drop-cons s n 0 lt ∙ ap (λ j. get_or s n 0 ∷ drop j s) next

-- a character, and what follows it
character_at : (s v : List ℕ) (n m : ℕ) → n < length s → character v m ≡ piece_of (drop n s)
    → string_from 0 (drop n s) ≡ option_map (put_value v) (string_from 0 (drop (n + (m + 1)) s))
character_at s v n m lt e =
    let here = one_front s n lt in
    let places : (n + 1) + m ≡ n + (m + 1) = omega arith in
    let later : drop m (drop (n + 1) s) ≡ drop (n + (m + 1)) s = drop-drop m (n + 1) s ∙ ap (λ j. drop j s) places in
    ap (string_from 0) here ∙ (step_eq (get_or s n 0) (drop (n + 1) s) v m (sym (e ∙ ap piece_of here))
    ∙ ap (λ x. option_map (put_value v) x) (skip m (drop (n + 1) s) ∙ ap (string_from 0) later))

-- ---- from the first byte on

pub start : (s : List ℕ) → Passed s 0 []
start s = record { is = put_nothing (string_from 0 s); within = omega arith }

pub passed_more : (s so_far v : List ℕ) (n m : ℕ) → Passed s n so_far → n < length s → character v m ≡ piece_of (drop n s) → m + 1 ≤ length (drop n s) → Passed s (n + (m + 1)) (so_far ++ v)
passed_more s so_far v n m p lt e fits = record {
  is = p.is ∙ (ap (λ x. option_map (put_value so_far) x) (character_at s v n m lt e) ∙ put_twice so_far v (string_from 0 (drop (n + (m + 1)) s)));
  within = omega (arith, p.within, fits, length-drop n s);
}

pub scanned_start : (s : List ℕ) → Scanned s 0 true
scanned_start s = record { so_far = []; passed = start s; no_more = omega arith; plainly = λ e. refl; escaped = λ is. absurd cc }

pub scanned_byte : (s : List ℕ) (n b : ℕ) (plain : Bool) → Scanned s n plain → n < length s → character (b ∷ []) 0 ≡ piece_of (drop n s) → drop n s ≡ b ∷ drop 1 (drop n s) → Scanned s (n + 1) plain
scanned_byte s n b plain p lt e first =
    let len : 1 ≤ length (drop n s) = omega (arith, length-drop n s) in
    let same : get_or s n 0 ∷ drop (n + 1) s ≡ b ∷ drop 1 (drop n s) = sym (one_front s n lt) ∙ first in
    let byte : get_or s n 0 ≡ b = cc in
    let no_more = p.no_more in
    let one_more : length (p.so_far ++ b ∷ []) ≡ length p.so_far + 1 = length-append p.so_far (b ∷ []) in
    record {
      so_far = p.so_far ++ b ∷ [];
      passed = passed_more s p.so_far (b ∷ []) n 0 p.passed lt e len;
      no_more = omega (arith, no_more, one_more);
      plainly = λ is. ap (λ (xs : List ℕ). xs ++ b ∷ []) (p.plainly is) ∙ (ap (λ (c : ℕ). take n s ++ c ∷ []) (sym byte) ∙ sym (take_more s n 0 lt));
      escaped = λ is. let fewer = p.escaped is in omega (arith, fewer, one_more);
    }

pub scanned_more : (s v : List ℕ) (n m : ℕ) (plain : Bool) → Scanned s n plain → n < length s → character v m ≡ piece_of (drop n s) → m + 1 ≤ length (drop n s) → length v ≤ m
    → Scanned s (n + (m + 1)) false
scanned_more s v n m plain p lt e fits few =
    let no_more = p.no_more in
    let more : length (p.so_far ++ v) ≡ length p.so_far + length v = length-append p.so_far v in
    record {
      so_far = p.so_far ++ v;
      passed = passed_more s p.so_far v n m p.passed lt e fits;
      no_more = omega (arith, no_more, more, few);
      plainly = λ is. absurd cc;
      escaped = λ is. omega (arith, no_more, more, few);
    }

-- ---- up to the last

ends_with_quote : (s so_far : List ℕ) (n : ℕ) → Passed s n so_far → n < length s → quote ≡ piece_of (drop n s) → string_from 0 s ≡ Some (so_far, drop (n + 1) s)
ends_with_quote s so_far n p lt e =
    let here = one_front s n lt in
    let last : string_from 0 (drop n s) ≡ Some ([], drop (n + 1) s) = ap (string_from 0) here ∙ quote_eq (get_or s n 0) (drop (n + 1) s) (sym (e ∙ ap piece_of here)) in
    p.is ∙ (ap (λ x. option_map (put_value so_far) x) last ∙ ap (λ (w : List ℕ). let o : Option (List ℕ × List ℕ) = Some (w, drop (n + 1) s) in o) (append-nil so_far))

pub closed : (s : List ℕ) (n : ℕ) (plain : Bool) → Scanned s n plain → n < length s → quote ≡ piece_of (drop n s) → IsClosed s n plain
closed s n plain p lt e =
    let found = ends_with_quote s p.so_far n p.passed lt e in
    let value : value_of s ≡ p.so_far = ap value_in found in
    let long : length (value_of s) ≡ length p.so_far = ap length value in
    record {
      is = found ∙ ap (λ (w : List ℕ). let o : Option (List ℕ × List ℕ) = Some (w, drop (n + 1) s) in o) (sym value);
      within = lt;
      plainly = λ is. value ∙ p.plainly is;
      escaped = λ is. let fewer = p.escaped is in omega (arith, long, fewer);
    }

pub refused : (s so_far : List ℕ) (n : ℕ) → Passed s n so_far → n < length s → no_piece ≡ piece_of (drop n s) → string_from 0 s ≡ None
refused s so_far n p lt e =
    let here = one_front s n lt in
    p.is ∙ ap (λ x. option_map (put_value so_far) x) (ap (string_from 0) here ∙ none_eq (get_or s n 0) (drop (n + 1) s) (sym (e ∙ ap piece_of here)))

none_left : (s : List ℕ) (n : ℕ) → length s ≤ n → string_from 0 (drop n s) ≡ None
none_left [] zero le = refl
none_left [] (suc n) le = refl
none_left (b ∷ s) zero le = absurd (omega arith)
none_left (b ∷ s) (suc n) le = none_left s n (omega arith)

pub at_the_end : (s so_far : List ℕ) (n : ℕ) → Passed s n so_far → length s ≤ n → string_from 0 s ≡ None
at_the_end s so_far n p le = p.is ∙ ap (λ x. option_map (put_value so_far) x) (none_left s n le)

-- ---- what a string stands for

pub value_at_quote : (s so_far : List ℕ) (n : ℕ) → Passed s n so_far → n < length s → quote ≡ piece_of (drop n s) → so_far ≡ value_of s
value_at_quote s so_far n p lt e = sym (ap value_in (ends_with_quote s so_far n p lt e))

pub never_none : (s : List ℕ) → IsClosedSomewhere s → string_from 0 s ≡ None → ⊥
never_none s c e = c e

pub somewhere : (s : List ℕ) (n : ℕ) (plain : Bool) → IsClosed s n plain → IsClosedSomewhere s
somewhere s n plain c = λ e. let nothing : Option (List ℕ × List ℕ) = None in let both : Some (value_of s, drop (n + 1) s) ≡ nothing = sym c.is ∙ e in absurd cc

pub ends_at : (s : List ℕ) (n : ℕ) (plain : Bool) → IsClosed s n plain → EndsAt s n
ends_at s n plain c = (c.is, c.within)

quoted_is : (s : List ℕ) (n : ℕ) (plain : Bool) → IsClosed s n plain → quoted_in s (string_from 0 s) ≡ take n s
quoted_is s n plain c =
    let len = length-drop (n + 1) s in
    let within = c.within in
    ap (quoted_in s) c.is ∙ ap (λ (k : ℕ). take k s) (let e : length s - (length (drop (n + 1) s) + 1) ≡ n = omega (arith, len, within) in e)

pub lent_value : (s : List ℕ) (n : ℕ) (plain : Bool) → IsClosed s n plain → plain ≡ true → take n s ≡ value_of s
lent_value s n plain c is = sym (c.plainly is)

pub not_lent : (s : List ℕ) (n : ℕ) (plain : Bool) → IsClosed s n plain → plain ≡ false → value_of s ≡ quoted_in s (string_from 0 s) → ⊥
not_lent s n plain c is q =
    let e : value_of s ≡ take n s = q ∙ quoted_is s n plain c in
    let fewer = c.escaped is in
    let within = c.within in
    let long : length (value_of s) ≡ length (take n s) = ap length e in
    let whole : length (take n s) ≡ n = length-take-le n s (omega (arith, within)) in
    absurd (omega (arith, fewer, long, whole))

-- what follows a string isn't longer
mapped : (v : List ℕ) (o : Option (List ℕ × List ℕ)) (x : List ℕ × List ℕ) → option_map (put_value v) o ≡ Some x → (y : List ℕ × List ℕ) × (o ≡ Some y) × (x.1 ≡ y.1)
mapped v None x e = absurd cc
mapped v (Some y) x e = let same : (v ++ y.0, y.1) ≡ x = cc in (y, refl, ap (λ (p : List ℕ × List ℕ). p.1) (sym same))

pub rest_len : (n : ℕ) (bs : List ℕ) (x : List ℕ × List ℕ) → string_from n bs ≡ Some x → length x.1 ≤ length bs
rest_len n [] x e = absurd cc
rest_len (suc n) (b ∷ bs) x e = let le = rest_len n bs x e in omega (arith, le)
rest_len zero (b ∷ bs) x e = by (λ m y. rest_len m bs y) (piece_of (b ∷ bs)) refl
  where
    by : ((m : ℕ) (y : List ℕ × List ℕ) → string_from m bs ≡ Some y → length y.1 ≤ length bs) → (p : Piece) → piece_of (b ∷ bs) ≡ p → length x.1 ≤ length (b ∷ bs)
    by below quote q = let is : Some ([], bs) ≡ Some x = sym (quote_eq b bs q) ∙ e in let same : ([], bs) ≡ x = cc in let len : length bs ≡ length x.1 = ap (λ (p : List ℕ × List ℕ). length p.1) same in omega (arith, len)
    by below (character v m) q =
        let y = mapped v (string_from m bs) x (sym (step_eq b bs v m q) ∙ e) in
        let le = below m y.0 y.1 in
        let len = ap length y.2 in
        omega (arith, le, len)
    by below no_piece q = let is : None ≡ Some x = sym (none_eq b bs q) ∙ e in absurd cc

-- the bytes of a scalar value are fewer than those that write it
pub utf8_few : (c m : ℕ) → 3 < m → length (encode_utf8 c) ≤ m
utf8_few c m lt = let most = (len_utf8_bounds c).1 in let long = length-encode c in omega (arith, lt, most, long)

-- ---- turns of the loops, where the bytes that are left are a slice

pub byte_turn : (s t : List ℕ) (n b : ℕ) (plain : Bool) → Scanned s n plain → n < length s → t ≡ drop n s → character (b ∷ []) 0 ≡ piece_of t → t ≡ b ∷ drop 1 t → Scanned s (n + 1) plain
byte_turn s t n b plain p lt is e first = scanned_byte s n b plain p lt (e ∙ ap piece_of is) (sym is ∙ (first ∙ ap (λ (u : List ℕ). b ∷ drop 1 u) is))

pub more_turn : (s t v : List ℕ) (n m : ℕ) (plain : Bool) → Scanned s n plain → n < length s → t ≡ drop n s → character v m ≡ piece_of t → m + 1 ≤ length t → length v ≤ m
    → Scanned s (n + (m + 1)) false
more_turn s t v n m plain p lt is e fits few = scanned_more s v n m plain p lt (e ∙ ap piece_of is) (omega (arith, fits, ap length is)) few

pub passed_turn : (s t so_far v : List ℕ) (n m : ℕ) → Passed s n so_far → n < length s → t ≡ drop n s → character v m ≡ piece_of t → m + 1 ≤ length t → Passed s (n + (m + 1)) (so_far ++ v)
passed_turn s t so_far v n m p lt is e fits = passed_more s so_far v n m p lt (e ∙ ap piece_of is) (omega (arith, fits, ap length is))

pub first_fits : (t : List ℕ) (b : ℕ) → t ≡ b ∷ drop 1 t → 1 ≤ length t
first_fits [] b e = absurd cc
first_fits (c ∷ t) b e = omega arith

-- a byte that stands for itself
plain_piece : (b : ℕ) (bs : List ℕ) → is_plain b ≡ true → character (b ∷ []) 0 ≡ piece_of (b ∷ bs)
plain_piece b bs e = by (is_string_byte b) (b == 34) (b == 92) e
  where
    by : (t u v : Bool) → (t && (not u && not v)) ≡ true
        → character (b ∷ []) 0 ≡ (let p : Piece = if u then quote else (if v then escape_piece bs else (if t then character (b ∷ []) 0 else no_piece)) in p)
    by true false false e = refl
    by true false true e = absurd cc
    by true true v e = absurd cc
    by false u v e = absurd cc

plain_at : (s : List ℕ) (n : ℕ) → n < length s → is_plain (get_or s n 0) ≡ true → character (get_or s n 0 ∷ []) 0 ≡ piece_of (drop n s)
plain_at s n lt e = plain_piece (get_or s n 0) (drop (n + 1) s) e ∙ ap piece_of (sym (one_front s n lt))

plain_front : (s : List ℕ) (n : ℕ) → n < length s → drop n s ≡ get_or s n 0 ∷ drop 1 (drop n s)
plain_front s n lt = one_front s n lt ∙ ap (λ xs. get_or s n 0 ∷ xs) (sym (drop-drop 1 n s))

plain_turn : (s : List ℕ) (n : ℕ) (plain : Bool) → Scanned s n plain → n < length s → is_plain (get_or s n 0) ≡ true → Scanned s (n + 1) plain
plain_turn s n plain p lt e = scanned_byte s n (get_or s n 0) plain p lt (plain_at s n lt e) (plain_front s n lt)

plain_passed : (s so_far : List ℕ) (n : ℕ) → Passed s n so_far → n < length s → is_plain (get_or s n 0) ≡ true → Passed s (n + 1) (so_far ++ get_or s n 0 ∷ [])
plain_passed s so_far n p lt e = passed_more s so_far (get_or s n 0 ∷ []) n 0 p lt (plain_at s n lt e) (let len = length-drop n s in omega (arith, lt, len))

-- ---- runs of bytes that stand for themselves

plain_there : (s : List ℕ) (n k : ℕ) → k < prefix_len is_plain (drop n s) → is_plain (get_or s (n + k) 0) ≡ true
plain_there s n k lt = ap is_plain (sym (get_or-drop n s k 0)) ∙ prefix_len_passes is_plain (drop n s) k 0 lt

scanned_run : (s : List ℕ) (n k j : ℕ) (plain : Bool) → Scanned s n plain → j ≡ n + k → j ≤ length s → k ≤ prefix_len is_plain (drop n s) → Scanned s j plain
scanned_run s n zero j plain p is fits le = let same : n ≡ j = omega (arith, is) in subst (λ i. Scanned s i plain) same p
scanned_run s n (suc k) j plain p is fits le =
    let before = scanned_run s n k (n + k) plain p refl (omega (arith, is, fits)) (omega (arith, le)) in
    let next : (n + k) + 1 ≡ j = omega (arith, is) in
    subst (λ i. Scanned s i plain) next (plain_turn s (n + k) plain before (omega (arith, is, fits)) (plain_there s n k (omega (arith, le))))

passed_run : (s so_far : List ℕ) (n k j : ℕ) → Passed s n so_far → j ≡ n + k → j ≤ length s → k ≤ prefix_len is_plain (drop n s) → Passed s j (so_far ++ take k (drop n s))
passed_run s so_far n zero j p is fits le =
    let same : n ≡ j = omega (arith, is) in
    subst (λ (v : List ℕ). Passed s j v) (sym (append-nil so_far)) (subst (λ i. Passed s i so_far) same p)
passed_run s so_far n (suc k) j p is fits le =
    let run = drop n s in
    let before = passed_run s so_far n k (n + k) p refl (omega (arith, is, fits)) (omega (arith, le)) in
    let next : (n + k) + 1 ≡ j = omega (arith, is) in
    let here = plain_passed s (so_far ++ take k run) (n + k) before (omega (arith, is, fits)) (plain_there s n k (omega (arith, le))) in
    let inside : k < length run = omega (arith, is, fits, length-drop n s) in
    let last : take k run ++ get_or s (n + k) 0 ∷ [] ≡ take (suc k) run =
    ap (λ (b : ℕ). take k run ++ b ∷ []) (sym (get_or-drop n s k 0)) ∙ (sym (take_more run k 0 inside) ∙ ap (λ (m : ℕ). take m run) (let e : k + 1 ≡ suc k = omega arith in e)) in
    let value : (so_far ++ take k run) ++ get_or s (n + k) 0 ∷ [] ≡ so_far ++ take (suc k) run = append_assoc so_far (take k run) (get_or s (n + k) 0 ∷ []) ∙ ap (λ (v : List ℕ). so_far ++ v) last in
    subst (λ (v : List ℕ). Passed s j v) value (subst (λ i. Passed s i ((so_far ++ take k run) ++ get_or s (n + k) 0 ∷ [])) next here)

-- so many bytes of the run
run_len : (s : List ℕ) (n end : ℕ) → n < length s → is_plain (get_or s n 0) ≡ true → end ≡ (n + 1) + prefix_len is_plain (drop (n + 1) s) → prefix_len is_plain (drop n s) ≡ end - n
run_len s n end lt is e = let first = prefix_len-drop_yes is_plain s n 0 lt is in omega (arith, first, e)

pub run_scanned : (s : List ℕ) (n end : ℕ) (plain : Bool) → Scanned s n plain → n < length s → is_plain (get_or s n 0) ≡ true → end ≡ (n + 1) + prefix_len is_plain (drop (n + 1) s)
    → end ≤ length s → Scanned s end plain
run_scanned s n end plain p lt is e fits =
    let len = run_len s n end lt is e in
    scanned_run s n (end - n) end plain p (omega (arith, e)) fits (omega (arith, len))

pub run_passed : (s so_far : List ℕ) (n end : ℕ) → Passed s n so_far → n < length s → is_plain (get_or s n 0) ≡ true → end ≡ (n + 1) + prefix_len is_plain (drop (n + 1) s)
    → end ≤ length s → Passed s end (so_far ++ take (end - n) (drop n s))
run_passed s so_far n end p lt is e fits =
    let len = run_len s n end lt is e in
    passed_run s so_far n (end - n) end p (omega (arith, e)) fits (omega (arith, len))

-- ---- an escape of two digits

pub escape_scanned : (s : List ℕ) (n v : ℕ) (plain : Bool) → Scanned s n plain → n < length s → character (v ∷ []) 2 ≡ piece_of (drop n s) → n + 3 ≤ length s → Scanned s (n + 3) false
escape_scanned s n v plain p lt e fits =
    let len = length-drop n s in
    scanned_more s (v ∷ []) n 2 plain p lt e (omega (arith, fits, len)) (omega arith)

pub escape_passed : (s so_far : List ℕ) (n v : ℕ) → Passed s n so_far → n < length s → character (v ∷ []) 2 ≡ piece_of (drop n s) → n + 3 ≤ length s → Passed s (n + 3) (so_far ++ v ∷ [])
escape_passed s so_far n v p lt e fits = let len = length-drop n s in passed_more s so_far (v ∷ []) n 2 p lt e (omega (arith, fits, len))

-- ---- a vector to which the value so far was pushed

pub record Pushed (s old : List ℕ) (n : ℕ) (items : List ℕ) : Type 0 where
  pub so_far : List ℕ
  pub passed : Passed s n so_far
  pub is : items ≡ old ++ so_far

pub none_pushed : (s old : List ℕ) → Pushed s old 0 old
none_pushed s old = record { so_far = []; passed = start s; is = sym (append-nil old) }

pub pushed_more : (s old items more v : List ℕ) (n m : ℕ) → Pushed s old n items → more ≡ items ++ v → ((so_far : List ℕ) → Passed s n so_far → Passed s m (so_far ++ v)) → Pushed s old m more
pushed_more s old items more v n m p e turn = record {
  so_far = p.so_far ++ v;
  passed = turn p.so_far p.passed;
  is = e ∙ (ap (λ (xs : List ℕ). xs ++ v) p.is ∙ append_assoc old p.so_far v);
}

pub all_pushed : (s old items t : List ℕ) (n : ℕ) → Pushed s old n items → n < length s → t ≡ drop n s → quote ≡ piece_of t → items ≡ old ++ value_of s
all_pushed s old items t n p lt is e = p.is ∙ ap (λ (xs : List ℕ). old ++ xs) (value_at_quote s p.so_far n p.passed lt (e ∙ ap piece_of is))

pub none_refused : (s old items t : List ℕ) (n : ℕ) → IsClosedSomewhere s → Pushed s old n items → n < length s → t ≡ drop n s → no_piece ≡ piece_of t → items ≡ old ++ value_of s
none_refused s old items t n closed p lt is e = absurd (closed (refused s p.so_far n p.passed lt (e ∙ ap piece_of is)))

pub never_at_end : (s old items : List ℕ) (n : ℕ) → IsClosedSomewhere s → Pushed s old n items → length s ≤ n → items ≡ old ++ value_of s
never_at_end s old items n closed p le = absurd (closed (at_the_end s p.so_far n p.passed le))

-- Each text has one reading, which is that of the function that cuts it.
use Rattle.std.proofs.Common.{◌≡◌, ℕ, zero, suc, pred, ◌+◌, ◌≤◌, Bool, true, false, List, [], ◌∷◌, length, drop, Option, Some, None, option_map, refl, ap, ◌∙◌, subst, arith, if◌then◌else◌, ◌==◌}
use Rattle.std.specs.List.{prefix_len}
use Rattle.wat_lang.specs.Tokens.{opens, closes, is_atom_byte, is_blank, Pair, comment_opens, comment_closes, neither, pair_of, comment_rest, is_no_line_feed, Piece, quote, character, no_piece, piece_of, begins_with, put_value, string_from, Front, gap, token, no_front, semicolon_front, comment_front, open_front, string_front, atom_front, front_of, Reading, with_first, Reads, the_end, a_fault, a_gap, a_token, IsReading}
use Rattle.wat_laws_grammar.specs.Judging.{cut_by, cut_text}

-- ---- a gap and a token have a byte or more

abbrev HasBytes : Front → Type 0
HasBytes (gap n) = 1 ≤ n
HasBytes (token c n) = 1 ≤ n
HasBytes no_front = Unit {0}

comment_is_shorter : (n : ℕ) (bs rest : List ℕ) → comment_rest n bs ≡ Some rest → length rest ≤ length bs
comment_is_shorter n [] rest e = absurd cc
comment_is_shorter n (a ∷ []) rest e = absurd cc
comment_is_shorter n (a ∷ b ∷ bs) rest e =
    by (λ m f. comment_is_shorter m bs rest f) (λ f. comment_is_shorter n (b ∷ bs) rest f) n (pair_of a b) e
  where
    by : ((m : ℕ) → comment_rest m bs ≡ Some rest → length rest ≤ length bs) → (comment_rest n (b ∷ bs) ≡ Some rest → length rest ≤ length (b ∷ bs)) → (m : ℕ) (p : Pair)
        → elim p [ comment_opens ↦ comment_rest (suc m) bs | comment_closes ↦ elim m [ zero ↦ Some bs | suc k ↦ comment_rest k bs ] | neither ↦ comment_rest n (b ∷ bs) ] ≡ Some rest → length rest ≤ length (a ∷ b ∷ bs)
    by two one m comment_opens e = let h = two (suc m) e in omega (arith, h)
    by two one zero comment_closes e = let same : bs ≡ rest = cc in let h = ap length same in omega (arith, h)
    by two one (suc k) comment_closes e = let h = two k e in omega (arith, h)
    by two one m neither e = let h = one e in omega (arith, h)

string_is_shorter : (n : ℕ) (bs : List ℕ) (s : List ℕ × List ℕ) → string_from n bs ≡ Some s → length s.1 ≤ length bs
string_is_shorter n [] s e = absurd cc
string_is_shorter (suc n) (b ∷ bs) s e = let h = string_is_shorter n bs s e in omega (arith, h)
string_is_shorter zero (b ∷ bs) s e = by (λ n u f. string_is_shorter n bs u f) (piece_of (b ∷ bs)) e
  where
    under : (v : List ℕ) (x : Option (List ℕ × List ℕ)) → ((u : List ℕ × List ℕ) → x ≡ Some u → length u.1 ≤ length bs) → option_map (put_value v) x ≡ Some s → length s.1 ≤ length (b ∷ bs)
    under v None below e = absurd cc
    under v (Some u) below e =
        let same : put_value v u ≡ s = cc in
        let h = below u refl in let k = ap (λ (t : List ℕ × List ℕ). length t.1) same in omega (arith, h, k)

    by : ((n : ℕ) (u : List ℕ × List ℕ) → string_from n bs ≡ Some u → length u.1 ≤ length bs) → (p : Piece)
        → elim p [ quote ↦ Some ([], bs) | character v n ↦ option_map (put_value v) (string_from n bs) | no_piece ↦ None ] ≡ Some s → length s.1 ≤ length (b ∷ bs)
    by below quote e =
        let same : (let t : List ℕ × List ℕ = ([], bs) in t) ≡ s = cc in
        let k = ap (λ (t : List ℕ × List ℕ). length t.1) same in omega (arith, k)
    by below (character v n) e = under v (string_from n bs) (below n) e
    by below no_piece e = absurd cc

if_keeps : {X : Type 0} (P : X → Type 0) (t : Bool) (x y : X) → (t ≡ true → P x) → P y → P (if t then x else y)
if_keeps P true x y h k = h refl
if_keeps P false x y h k = k

open_is_some : (bs : List ℕ) → HasBytes (open_front bs)
open_is_some bs = if_keeps HasBytes (begins_with 59 bs) (comment_front (1 + length bs) (comment_rest 0 (drop 1 bs))) (token opens 1) (λ e. by (comment_rest 0 (drop 1 bs)) refl) (omega arith)
  where
    shorter : (cs : List ℕ) → length (drop 1 cs) ≤ length cs
    shorter [] = omega arith
    shorter (c ∷ cs) = omega arith

    by : (x : Option (List ℕ)) → comment_rest 0 (drop 1 bs) ≡ x → HasBytes (comment_front (1 + length bs) x)
    by None e = tt
    by (Some rest) e = let h = comment_is_shorter 0 (drop 1 bs) rest e in let k = shorter bs in omega (arith, h, k)

string_is_some : (bs : List ℕ) → HasBytes (string_front (1 + length bs) (string_from 0 bs))
string_is_some bs = by (string_from 0 bs) refl
  where
    by : (x : Option (List ℕ × List ℕ)) → string_from 0 bs ≡ x → HasBytes (string_front (1 + length bs) x)
    by None e = tt
    by (Some s) e = let h = string_is_shorter 0 bs s e in omega (arith, h)

atom_is_some : (b : ℕ) (bs : List ℕ) → is_atom_byte b ≡ true → 1 ≤ prefix_len is_atom_byte (b ∷ bs)
atom_is_some b bs e = rw e (omega arith)

front_is_some : (b : ℕ) (bs : List ℕ) → HasBytes (front_of (b ∷ bs))
front_is_some b bs =
    if_keeps HasBytes (is_blank b) (gap 1) _ (λ e. omega arith)
    (if_keeps HasBytes (is_atom_byte b) (atom_front (prefix_len is_atom_byte (b ∷ bs)) (b ∷ bs)) _ (λ e. atom_is_some b bs e)
    (if_keeps HasBytes (b == 40) (open_front bs) _ (λ e. open_is_some bs)
    (if_keeps HasBytes (b == 41) (token closes 1) _ (λ e. omega arith)
    (if_keeps HasBytes (b == 34) (string_front (1 + length bs) (string_from 0 bs)) _ (λ e. string_is_some bs)
    (if_keeps HasBytes (b == 59) (semicolon_front bs) no_front
    (λ e. if_keeps HasBytes (begins_with 59 bs) (gap (2 + prefix_len is_no_line_feed (drop 1 bs))) no_front (λ e. omega arith) tt) tt)))))

-- ---- past so many bytes

skipped : (n at : ℕ) (bs : List ℕ) → cut_text n at bs ≡ cut_text 0 (at + n) (drop n bs)
skipped n at [] = by n
  where
    by : (n : ℕ) → cut_text n at [] ≡ cut_text 0 (at + n) (drop n [])
    by zero = refl
    by (suc n) = refl
skipped zero at (b ∷ bs) = ap (λ k. cut_text 0 k (b ∷ bs)) (let e : at ≡ at + 0 = omega arith in e)
skipped (suc n) at (b ∷ bs) = skipped n (at + 1) bs ∙ ap (λ k. cut_text 0 k (drop n bs)) (let e : at + 1 + n ≡ at + suc n = omega arith in e)

behind : (n at b : ℕ) (bs : List ℕ) → 1 ≤ n → cut_text (pred n) (at + 1) bs ≡ cut_text 0 (at + n) (drop n (b ∷ bs))
behind zero at b bs h = absurd (omega (arith, h))
behind (suc n) at b bs h = skipped n (at + 1) bs ∙ ap (λ k. cut_text 0 k (drop n bs)) (let e : at + 1 + n ≡ at + suc n = omega arith in e)

-- ---- what is read is cut

pub reading_is_cut : {at : ℕ} {bs : List ℕ} {r : Reading} → Reads at bs r → cut_text 0 at bs ≡ r
reading_is_cut the_end = refl
reading_is_cut (a_fault {at = at} {b = b} {bs = bs} e) = ap (λ (f : Front). cut_by at f (λ n. cut_text n (at + 1) bs)) e
reading_is_cut (a_gap {at = at} {b = b} {n = n} {bs = bs} e h) =
    let some : 1 ≤ n = subst HasBytes e (front_is_some b bs) in
    ap (λ (f : Front). cut_by at f (λ n. cut_text n (at + 1) bs)) e ∙ behind n at b bs some ∙ reading_is_cut h
reading_is_cut (a_token {at = at} {b = b} {n = n} {bs = bs} {c = c} e h) =
    let some : 1 ≤ n = subst HasBytes e (front_is_some b bs) in
    ap (λ (f : Front). cut_by at f (λ n. cut_text n (at + 1) bs)) e ∙ ap (with_first (record { class = c; at = at })) (behind n at b bs some ∙ reading_is_cut h)

-- ---- what is cut is a reading

cut_reads : (n at : ℕ) (bs : List ℕ) → Reads (at + n) (drop n bs) (cut_text n at bs)
cut_reads n at [] = by n
  where
    by : (n : ℕ) → Reads (at + n) (drop n []) (cut_text n at [])
    by zero = the_end
    by (suc n) = the_end
cut_reads (suc n) at (b ∷ bs) = subst (λ k. Reads k (drop n bs) (cut_text n (at + 1) bs)) (let e : at + 1 + n ≡ at + suc n = omega arith in e) (cut_reads n (at + 1) bs)
cut_reads zero at (b ∷ bs) = subst (λ k. Reads k (b ∷ bs) (cut_text 0 at (b ∷ bs))) (let e : at ≡ at + 0 = omega arith in e) (by (λ n. cut_reads n (at + 1) bs) (front_of (b ∷ bs)) refl (front_is_some b bs))
  where
    moved : ((n : ℕ) → Reads (at + 1 + n) (drop n bs) (cut_text n (at + 1) bs)) → (n : ℕ) → 1 ≤ n → Reads (at + n) (drop n (b ∷ bs)) (cut_text (pred n) (at + 1) bs)
    moved below zero h = absurd (omega (arith, h))
    moved below (suc n) h = subst (λ k. Reads k (drop n bs) (cut_text n (at + 1) bs)) (let e : at + 1 + n ≡ at + suc n = omega arith in e) (below n)

    by : ((n : ℕ) → Reads (at + 1 + n) (drop n bs) (cut_text n (at + 1) bs)) → (f : Front) → front_of (b ∷ bs) ≡ f → HasBytes f → Reads at (b ∷ bs) (cut_by at f (λ n. cut_text n (at + 1) bs))
    by below (gap n) e h = a_gap e (moved below n h)
    by below (token c n) e h = a_token e (moved below n h)
    by below no_front e h = a_fault e

pub cut_is_reading : (bs : List ℕ) → IsReading bs (cut_text 0 0 bs)
cut_is_reading bs = cut_reads 0 0 bs

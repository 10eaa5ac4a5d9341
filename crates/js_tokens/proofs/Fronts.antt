-- What stands at the front of a text.
use Rattle.std.proofs.Common.{◌≡◌, ℕ, zero, suc, ◌+◌, ◌≤◌, ◌<◌, true, false, ◌&&◌, ◌||◌, List, [], ◌∷◌, length, take, drop, not, Some, None, refl, sym, ap, ◌∙◌, arith, length-take-le}
use Rattle.std.specs.List.{position_or_len}
use Rattle.std.proofs.lemmas.Bool.{or_left, or_right}
use Rattle.std.proofs.lemmas.List.Sums.{prefix_len-le-length}
use Rattle.asm_lang_tokens.specs.Bytes.{is_line_end}
use Rattle.asm_lang_tokens.specs.Forms.{kind_of, begins_close, begins_separator}
use Rattle.asm_lang_tokens.specs.Text.{first_place, comment_len, gap_without, comment_at, token_len, token_at, is_numeric, runs_on, front_of, token, fault, bad_token, open_comment, literal_form}
use Rattle.js_tokens.specs.declared.token.TokenKind.{TokenKind}
use Rattle.js_tokens.specs.Views.{kind_view}
use Rattle.js_tokens.specs.Scan.{IsToken, begins_with}
use Rattle.js_tokens.proofs.Gaps.{line_comment, block_comment, open_block_comment}

-- ---- tokens

pub no_token : (s : List ℕ) → token_len s ≡ 0 → fault bad_token 0 ≡ token_at (token_len s) s
no_token s e = rw e refl

good_at : (s : List ℕ) (k : TokenKind) (n : ℕ) → 0 < n → kind_of (take n s) ≡ kind_view k → (is_numeric (kind_view k) && runs_on (drop n s)) ≡ false → token (kind_view k) n ≡ token_at n s
good_at s k zero lt kind e = absurd (omega arith)
good_at s k (suc n) lt kind e = rw (kind, e) refl

bad_at : (s : List ℕ) (k : TokenKind) (n : ℕ) → 0 < n → kind_of (take n s) ≡ kind_view k → (is_numeric (kind_view k) && runs_on (drop n s)) ≡ true → fault literal_form 0 ≡ token_at n s
bad_at s k zero lt kind e = absurd (omega arith)
bad_at s k (suc n) lt kind e = rw (kind, e) refl

pub good_token : (s : List ℕ) (k : TokenKind) (n : ℕ) → IsToken s k n → (is_numeric (kind_view k) && runs_on (drop n s)) ≡ false → token (kind_view k) n ≡ token_at (token_len s) s
good_token s k n t e = rw t.len (good_at s k n t.some t.kind e)

pub faulty_token : (s : List ℕ) (k : TokenKind) (n : ℕ) → IsToken s k n → (is_numeric (kind_view k) && runs_on (drop n s)) ≡ true → fault literal_form 0 ≡ token_at (token_len s) s
faulty_token s k n t e = rw t.len (bad_at s k n t.some t.kind e)

pub ruleset tokens = (no_token, good_token, faulty_token)

-- ---- comments

comment_is : (s comment : List ℕ) (n : ℕ) → 0 < n → n ≤ length s → comment ≡ take n s → gap_without (length comment) (first_place begins_separator comment) ≡ comment_at n s
comment_is s comment zero lt le e = absurd (omega arith)
comment_is s comment (suc n) lt le e = let len : length comment ≡ suc n = ap length e ∙ length-take-le (suc n) s le in rw (len, e) refl

commented : (bs : List ℕ) → (begins_with 47 bs || begins_with 42 bs) ≡ true → front_of (47 ∷ bs) ≡ comment_at (comment_len (47 ∷ bs)) (47 ∷ bs)
commented [] h = absurd cc
commented (c ∷ bs) h = rw h refl

pub line_front : (s bs comment : List ℕ) → s ≡ 47 ∷ bs → begins_with 47 bs ≡ true → comment ≡ take (1 + position_or_len is_line_end bs) s → gap_without (length comment) (first_place begins_separator comment) ≡ front_of s
line_front s bs comment e h is =
    let m : ℕ = position_or_len is_line_end bs in
    let one_more : 1 + m ≡ suc m = omega arith in
    let len : comment_len (47 ∷ bs) ≡ suc m = line_comment bs h in
    let cut : comment ≡ take (suc m) (47 ∷ bs) = is ∙ (ap (λ i. take i s) one_more ∙ ap (take (suc m)) e) in
    comment_is (47 ∷ bs) comment (suc m) (omega arith) (omega (arith, prefix_len-le-length (λ x. not (is_line_end x)) bs)) cut
    ∙ (ap (λ i. comment_at i (47 ∷ bs)) (sym len) ∙ (sym (commented bs (or_left _ (begins_with 42 bs) h)) ∙ ap front_of (sym e)))

pub block_front : (s bs comment : List ℕ) (n : ℕ) → s ≡ 47 ∷ bs → begins_with 42 bs ≡ true → Some n ≡ first_place begins_close (drop 1 bs) → n + 4 ≤ length s → comment ≡ take (n + 4) s → gap_without (length comment) (first_place begins_separator comment) ≡ front_of s
block_front s bs comment n e h place le is =
    comment_is (47 ∷ bs) comment (n + 4) (omega arith) (omega (arith, ap length e)) (is ∙ ap (take (n + 4)) e)
    ∙ (ap (λ i. comment_at i (47 ∷ bs)) (sym (block_comment bs n h place)) ∙ (sym (commented bs (or_right (begins_with 47 bs) _ h)) ∙ ap front_of (sym e)))

pub open_front : (s bs : List ℕ) → s ≡ 47 ∷ bs → begins_with 42 bs ≡ true → None ≡ first_place begins_close (drop 1 bs) → fault open_comment 0 ≡ front_of s
open_front s bs e h place = ap (λ i. comment_at i (47 ∷ bs)) (sym (open_block_comment bs h place)) ∙ (sym (commented bs (or_right (begins_with 47 bs) _ h)) ∙ ap front_of (sym e))

-- Comments at the front of a text.
use Rattle.std.proofs.Common.{◌≡◌, ℕ, zero, suc, ◌+◌, ◌≤◌, ◌<◌, Bool, true, false, ◌||◌, not, List, [], ◌∷◌, length, take, drop, Option, Some, None, refl, sym, ap, subst, ◌∙◌, inl, inr, arith, eqb}
use Rattle.std.specs.List.{list_all, prefix_len, position_or_len}
use Rattle.std.proofs.lemmas.Bool.{cases_Bool}
use Rattle.std.proofs.lemmas.Bool.Decides.{nat_tests}
use Rattle.std.proofs.lemmas.List.Sums.{prefix_len-le-length}
use Rattle.asm_lang_tokens.specs.Bytes.{is_line_end}
use Rattle.asm_lang_tokens.specs.Forms.{begins_close, is_up_to_close, is_comment}
use Rattle.asm_lang_tokens.specs.Text.{next_place, first_place, comment_len}
use Rattle.asm_lang_tokens.proofs.Longest.{longest_is, prefix_len-yes, front_passes, longer_fails}
use Rattle.js_tokens.specs.Scan.{begins_with}

or_false : (t : Bool) → (t || false) ≡ t
or_false true = refl
or_false false = refl

-- ---- comments up to the end of the line

abbrev within_line : ℕ → Bool
within_line b = not (is_line_end b)

slash_within_line : (c : ℕ) → eqb c 47 ≡ true → within_line c ≡ true
slash_within_line c h = grind (arith, nat_tests)

slash_no_star : (c : ℕ) → eqb c 47 ≡ true → eqb c 42 ≡ false
slash_no_star c h = grind (arith, nat_tests)

star_no_slash : (c : ℕ) → eqb c 42 ≡ true → eqb c 47 ≡ false
star_no_slash c h = grind (arith, nat_tests)

line_comment_is : (c : ℕ) (ys : List ℕ) → eqb c 47 ≡ true → is_comment (47 ∷ c ∷ ys) ≡ list_all within_line ys
line_comment_is c ys h = rw (h, slash_no_star c h) (or_false (list_all within_line ys))

pub line_comment : (bs : List ℕ) → begins_with 47 bs ≡ true → comment_len (47 ∷ bs) ≡ suc (position_or_len is_line_end bs)
line_comment [] h = absurd cc
line_comment (c ∷ bs) h =
    let m : ℕ = prefix_len within_line bs in
    let len : prefix_len within_line (c ∷ bs) ≡ suc m = prefix_len-yes within_line c bs (slash_within_line c h) in
    longest_is is_comment (47 ∷ c ∷ bs) (suc (suc m)) (length (47 ∷ c ∷ bs)) (omega (arith, prefix_len-le-length within_line bs)) (λ _. line_comment_is c (take m bs) h ∙ front_passes within_line bs m (omega arith)) (past c bs h)
    ∙ ap suc (sym len)
  where
    past : (c : ℕ) (bs : List ℕ) → eqb c 47 ≡ true → (k : ℕ) → suc (suc (prefix_len within_line bs)) < k → k ≤ length (47 ∷ c ∷ bs) → is_comment (take k (47 ∷ c ∷ bs)) ≡ false
    past c bs h zero lt le = absurd (omega arith)
    past c bs h (suc zero) lt le = absurd (omega arith)
    past c bs h (suc (suc k)) lt le = line_comment_is c (take k bs) h ∙ longer_fails within_line bs k (omega arith) (omega arith)

-- ---- comments up to the next `*/`

block_comment_is : (c : ℕ) (ys : List ℕ) → eqb c 42 ≡ true → is_comment (47 ∷ c ∷ ys) ≡ is_up_to_close ys
block_comment_is c ys h = rw (h, star_no_slash c h) refl

closes_here : (bs : List ℕ) → begins_close bs ≡ true → is_up_to_close (take 2 bs) ≡ true
closes_here [] h = absurd cc
closes_here (b ∷ []) h = absurd cc
closes_here (b ∷ c ∷ bs) h = rw h refl

closes_later : (b : ℕ) (bs ys : List ℕ) (n : ℕ) → begins_close (b ∷ bs) ≡ false → ys ≡ take n bs → is_up_to_close (b ∷ ys) ≡ is_up_to_close ys
closes_later b bs ys zero h e = let P : List ℕ → Type 0 = λ zs. is_up_to_close (b ∷ zs) ≡ is_up_to_close zs in subst P (sym e) refl
closes_later b [] ys (suc n) h e = let P : List ℕ → Type 0 = λ zs. is_up_to_close (b ∷ zs) ≡ is_up_to_close zs in subst P (sym e) refl
closes_later b (c ∷ bs) ys (suc n) h e = let P : List ℕ → Type 0 = λ zs. is_up_to_close (b ∷ zs) ≡ is_up_to_close zs in let there : P (c ∷ take n bs) = rw h refl in subst P (sym e) there

abbrev close_place : List ℕ → Option ℕ
close_place bs = first_place begins_close bs

close_place-yes : (b : ℕ) (bs : List ℕ) → begins_close (b ∷ bs) ≡ true → close_place (b ∷ bs) ≡ Some 0
close_place-yes b bs h = rw h refl

close_place-no : (b : ℕ) (bs : List ℕ) → begins_close (b ∷ bs) ≡ false → close_place (b ∷ bs) ≡ next_place (close_place bs)
close_place-no b bs h = rw h refl

closes_at : (bs : List ℕ) (n : ℕ) → close_place bs ≡ Some n → is_up_to_close (take (suc (suc n)) bs) ≡ true
closes_at [] n e = absurd cc
closes_at (b ∷ bs) n e =
    elim (cases_Bool (begins_close (b ∷ bs))) [
      | inl yes_ ↦ (let first = close_place-yes b bs yes_ in let same : 0 ≡ n = cc in subst (λ (i : ℕ). is_up_to_close (take (suc (suc i)) (b ∷ bs)) ≡ true) same (closes_here (b ∷ bs) yes_))
      | inr no_ ↦ later b bs n no_ (λ i same. closes_at bs i same) (close_place bs) refl (sym (close_place-no b bs no_) ∙ e)
    ]
  where
    later : (b : ℕ) (bs : List ℕ) (n : ℕ) → begins_close (b ∷ bs) ≡ false → ((i : ℕ) → close_place bs ≡ Some i → is_up_to_close (take (suc (suc i)) bs) ≡ true) → (o : Option ℕ) → close_place bs ≡ o → next_place o ≡ Some n → is_up_to_close (take (suc (suc n)) (b ∷ bs)) ≡ true
    later b bs n h ih None is e = absurd cc
    later b bs n h ih (Some i) is e =
        let same : suc i ≡ n = cc in
        subst (λ (k : ℕ). is_up_to_close (take (suc (suc k)) (b ∷ bs)) ≡ true) same (closes_later b bs (take (suc (suc i)) bs) (suc (suc i)) h refl ∙ ih i is)

-- no other front does
closes_nowhere : (bs : List ℕ) (k : ℕ) → k ≤ length bs → ((n : ℕ) → close_place bs ≡ Some n → k ≡ suc (suc n) → ⊥) → is_up_to_close (take k bs) ≡ false
closes_nowhere bs zero le h = refl
closes_nowhere [] (suc k) le h = absurd (omega arith)
closes_nowhere (b ∷ bs) (suc k) le h =
    elim (cases_Bool (begins_close (b ∷ bs))) [
      | inl yes_ ↦ first b bs k yes_ (omega arith) (λ two. h 0 (close_place-yes b bs yes_) two)
      | inr no_ ↦ closes_later b bs (take k bs) k no_ refl ∙ closes_nowhere bs k (omega arith) (λ n e same. h (suc n) (close_place-no b bs no_ ∙ ap next_place e) (ap suc same))
    ]
  where
    first : (b : ℕ) (bs : List ℕ) (k : ℕ) → begins_close (b ∷ bs) ≡ true → k ≤ length bs → (suc k ≡ 2 → ⊥) → is_up_to_close (b ∷ take k bs) ≡ false
    first b bs zero h le other = refl
    first b [] (suc k) h le other = absurd (omega arith)
    first b (c ∷ bs) (suc zero) h le other = absurd (other refl)
    first b (c ∷ []) (suc (suc k)) h le other = absurd (omega arith)
    first b (c ∷ d ∷ bs) (suc (suc k)) h le other = rw h refl

pub close_place-le : (bs : List ℕ) (n : ℕ) → close_place bs ≡ Some n → n + 2 ≤ length bs
close_place-le [] n e = absurd cc
close_place-le (b ∷ bs) n e =
    elim (cases_Bool (begins_close (b ∷ bs))) [
      | inl yes_ ↦ (let first = close_place-yes b bs yes_ in let same : 0 ≡ n = cc in omega (arith, two b bs yes_))
      | inr no_ ↦ later b bs n (λ i same. close_place-le bs i same) (close_place bs) refl (sym (close_place-no b bs no_) ∙ e)
    ]
  where
    two : (b : ℕ) (bs : List ℕ) → begins_close (b ∷ bs) ≡ true → 1 ≤ length bs
    two b [] h = absurd cc
    two b (c ∷ bs) h = omega arith

    later : (b : ℕ) (bs : List ℕ) (n : ℕ) → ((i : ℕ) → close_place bs ≡ Some i → i + 2 ≤ length bs) → (o : Option ℕ) → close_place bs ≡ o → next_place o ≡ Some n → n + 2 ≤ length (b ∷ bs)
    later b bs n ih None is e = absurd cc
    later b bs n ih (Some i) is e = let same : suc i ≡ n = cc in omega (arith, ih i is)

pub block_comment : (bs : List ℕ) (n : ℕ) → begins_with 42 bs ≡ true → Some n ≡ first_place begins_close (drop 1 bs) → comment_len (47 ∷ bs) ≡ n + 4
block_comment [] n h e = absurd cc
block_comment (c ∷ bs) n h e =
    longest_is is_comment (47 ∷ c ∷ bs) (suc (suc (suc (suc n)))) (length (47 ∷ c ∷ bs)) (omega (arith, close_place-le bs n (sym e))) (λ _. block_comment_is c (take (suc (suc n)) bs) h ∙ closes_at bs n (sym e)) (past c bs n h (sym e)) ∙ omega arith
  where
    past : (c : ℕ) (bs : List ℕ) (n : ℕ) → eqb c 42 ≡ true → close_place bs ≡ Some n → (k : ℕ) → suc (suc (suc (suc n))) < k → k ≤ length (47 ∷ c ∷ bs) → is_comment (take k (47 ∷ c ∷ bs)) ≡ false
    past c bs n h e zero lt le = absurd (omega arith)
    past c bs n h e (suc zero) lt le = absurd (omega arith)
    past c bs n h e (suc (suc k)) lt le = block_comment_is c (take k bs) h ∙ closes_nowhere bs k (omega arith) (λ i is same. let one : n ≡ i = cc in absurd (omega arith))

pub open_block_comment : (bs : List ℕ) → begins_with 42 bs ≡ true → None ≡ first_place begins_close (drop 1 bs) → comment_len (47 ∷ bs) ≡ 0
open_block_comment [] h e = absurd cc
open_block_comment (c ∷ bs) h e = longest_is is_comment (47 ∷ c ∷ bs) 0 (length (47 ∷ c ∷ bs)) (omega arith) (λ lt. absurd (omega arith)) (past c bs h (sym e))
  where
    past : (c : ℕ) (bs : List ℕ) → eqb c 42 ≡ true → close_place bs ≡ None → (k : ℕ) → 0 < k → k ≤ length (47 ∷ c ∷ bs) → is_comment (take k (47 ∷ c ∷ bs)) ≡ false
    past c bs h e zero lt le = absurd (omega arith)
    past c bs h e (suc zero) lt le = refl
    past c bs h e (suc (suc k)) lt le = block_comment_is c (take k bs) h ∙ closes_nowhere bs k (omega arith) (λ i is same. absurd cc)

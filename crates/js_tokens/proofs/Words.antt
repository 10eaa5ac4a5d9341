-- Names and quoted texts at the front of a text.
use Rattle.std.proofs.Common.{◌≡◌, ℕ, zero, suc, ◌+◌, ◌≤◌, ◌<◌, Bool, true, false, ◌&&◌, not, List, [], ◌∷◌, length, take, drop, refl, sym, ap, subst, ◌∙◌, inl, inr, arith, eqb, add-one, length-take-le}
use Rattle.std.specs.List.{prefix_len}
use Rattle.std.proofs.lemmas.Bool.{cases_Bool, cases_lt, and_from, and_parts, and_right, or_left, both_ways, not-true}
use Rattle.std.proofs.lemmas.List.{drop_all}
use Rattle.std.proofs.lemmas.List.Sums.{prefix_len-le-length}
use Rattle.asm_lang_tokens.specs.Bytes.{is_digit, begins_name, is_name_byte, is_ascii, is_quote, may_be_quoted}
use Rattle.asm_lang_tokens.specs.Forms.{is_name, is_quoted, ends_quoted, is_token, kind_of}
use Rattle.asm_lang_tokens.specs.Text.{token_len}
use Rattle.asm_lang_tokens.proofs.Longest.{longest_is, prefix_len-yes, prefix_len-no, front_passes, longer_fails}
use Rattle.asm_lang_tokens.proofs.Classes.{word_is_name, word_is_quoted, name_needs, number_needs, decimal_needs, quote_not_name, quote_not_digit, quote_not_dot}
use Rattle.js_tokens.specs.declared.token.TokenKind.{TokenKind}
use Rattle.js_tokens.specs.declared.token.TokenKind.TheVariants.{Name, Quoted}
use Rattle.js_tokens.specs.Scan.{IsToken, begins_with, quoted_len}
use Rattle.js_tokens.specs.Views.{kind_view}

-- a front that is a token, where no longer one is
pub is_found : (s : List ℕ) (k : TokenKind) (n : ℕ) → 0 < n → n ≤ length s → is_token (take n s) ≡ true → ((j : ℕ) → n < j → j ≤ length s → is_token (take j s) ≡ false) → kind_of (take n s) ≡ kind_view k → IsToken s k n
is_found s k n some within here more kind = record { len = longest_is is_token s n (length s) within (λ _. here) more; some = some; within = within; kind = kind }

-- ---- names

name_here : (b : ℕ) (bs : List ℕ) → begins_name b ≡ true → IsToken (b ∷ bs) Name (suc (prefix_len is_name_byte bs))
name_here b bs h =
    let m : ℕ = prefix_len is_name_byte bs in
    let a_name : is_name (b ∷ take m bs) ≡ true = and_from _ _ h (front_passes is_name_byte bs m (omega arith)) in
    is_found (b ∷ bs) Name (suc m) (omega arith) (omega (arith, prefix_len-le-length is_name_byte bs)) (word_is_name b (take m bs) h ∙ a_name) (past b bs h) (rw a_name refl)
  where
    past : (b : ℕ) (bs : List ℕ) → begins_name b ≡ true → (j : ℕ) → suc (prefix_len is_name_byte bs) < j → j ≤ length (b ∷ bs) → is_token (take j (b ∷ bs)) ≡ false
    past b bs h zero lt le = absurd (omega arith)
    past b bs h (suc j) lt le = word_is_name b (take j bs) h ∙ and_right (begins_name b) _ (longer_fails is_name_byte bs j (omega arith) (omega arith))

pub name_at_front : (s : List ℕ) (b : ℕ) (bs : List ℕ) (n : ℕ) → s ≡ b ∷ bs → begins_name b ≡ true → n ≡ prefix_len is_name_byte s → IsToken s Name n
name_at_front s b bs n e h is =
    let first : is_name_byte b ≡ true = or_left (begins_name b) (is_digit b) h in
    let len : n ≡ suc (prefix_len is_name_byte bs) = is ∙ ap (prefix_len is_name_byte) e ∙ prefix_len-yes is_name_byte b bs first in
    subst (λ (t : List ℕ). IsToken t Name n) (sym e) (subst (IsToken (b ∷ bs) Name) (sym len) (name_here b bs h))

-- ---- quoted texts

quote_ends : (q b : ℕ) → may_be_quoted q b ≡ true → eqb b q ≡ false
quote_ends q b h = not-true (eqb b q) (and_parts (is_ascii b) (not (eqb b q)) (and_parts (is_ascii b && not (eqb b q)) _ h).0).1

-- a byte more before it
more_ends : (q b : ℕ) (ys : List ℕ) → 0 < length ys → may_be_quoted q b ≡ true → ends_quoted q (b ∷ ys) ≡ ends_quoted q ys
more_ends q b [] lt is = absurd (omega arith)
more_ends q b (c ∷ ys) lt is = rw is refl

-- the quote after what may be quoted ends it
ends_at : (q : ℕ) (bs : List ℕ) → begins_with q (drop (prefix_len (may_be_quoted q) bs) bs) ≡ true → ends_quoted q (take (suc (prefix_len (may_be_quoted q) bs)) bs) ≡ true
ends_at q [] h = absurd cc
ends_at q (b ∷ bs) h =
    let p : ℕ → Bool = may_be_quoted q in
    elim (cases_Bool (may_be_quoted q b)) [
      | inl is ↦ (
          let e = prefix_len-yes p b bs is in
          let there : begins_with q (drop (prefix_len p bs) bs) ≡ true = subst (λ (n : ℕ). begins_with q (drop n (b ∷ bs)) ≡ true) e h in
          subst (λ (n : ℕ). ends_quoted q (take (suc n) (b ∷ bs)) ≡ true) (sym e) (more_ends q b (take (suc (prefix_len p bs)) bs) (some q bs there) is ∙ ends_at q bs there)
          )
      | inr not_ ↦ (
          let e = prefix_len-no p b bs not_ in
          let there : begins_with q (drop 0 (b ∷ bs)) ≡ true = subst (λ (n : ℕ). begins_with q (drop n (b ∷ bs)) ≡ true) e h in
          subst (λ (n : ℕ). ends_quoted q (take (suc n) (b ∷ bs)) ≡ true) (sym e) there
          )
    ]
  where
    some : (q : ℕ) (bs : List ℕ) → begins_with q (drop (prefix_len (may_be_quoted q) bs) bs) ≡ true → 0 < length (take (suc (prefix_len (may_be_quoted q) bs)) bs)
    some q [] h = absurd cc
    some q (c ∷ bs) h = omega arith

-- nothing else does
ends_nowhere : (q : ℕ) (bs : List ℕ) (k : ℕ) → k ≤ length bs → (k ≡ suc (prefix_len (may_be_quoted q) bs) → begins_with q (drop (prefix_len (may_be_quoted q) bs) bs) ≡ false) → ends_quoted q (take k bs) ≡ false
ends_nowhere q bs zero le h = refl
ends_nowhere q [] (suc k) le h = absurd (omega arith)
ends_nowhere q (b ∷ bs) (suc k) le h =
    let p : ℕ → Bool = may_be_quoted q in
    elim (cases_Bool (may_be_quoted q b)) [
      | inl is ↦ (
          let P : ℕ → Type 0 = λ n. suc k ≡ suc n → begins_with q (drop n (b ∷ bs)) ≡ false in
          let later : P (suc (prefix_len p bs)) = subst P (prefix_len-yes p b bs is) h in
          inner q b (take k bs) is (ends_nowhere q bs k (omega arith) (λ same. later (ap suc same)))
          )
      | inr not_ ↦ (
          let P : ℕ → Type 0 = λ n. suc k ≡ suc n → begins_with q (drop n (b ∷ bs)) ≡ false in
          let later : P 0 = subst P (prefix_len-no p b bs not_) h in
          last q b (take k bs) not_ (λ none. later (ap suc (omega (arith, length-take-le k bs (omega arith)))))
          )
    ]
  where
    inner : (q b : ℕ) (ys : List ℕ) → may_be_quoted q b ≡ true → ends_quoted q ys ≡ false → ends_quoted q (b ∷ ys) ≡ false
    inner q b [] is h = quote_ends q b is
    inner q b (c ∷ ys) is h = more_ends q b (c ∷ ys) (omega arith) is ∙ h

    last : (q b : ℕ) (ys : List ℕ) → may_be_quoted q b ≡ false → (length ys ≡ 0 → eqb b q ≡ false) → ends_quoted q (b ∷ ys) ≡ false
    last q b [] not_ h = h refl
    last q b (c ∷ ys) not_ h = rw not_ refl

quoted_kind : (q : ℕ) (ys : List ℕ) → is_quote q ≡ true → is_quoted (q ∷ ys) ≡ true → kind_of (q ∷ ys) ≡ kind_view Quoted
quoted_kind q ys h is = rw (name_needs q ys (quote_not_name q h), number_needs q ys (quote_not_digit q h), decimal_needs q ys (quote_not_digit q h) (quote_not_dot q h), is) refl

quoted_some : (q : ℕ) (bs : List ℕ) → begins_with q (drop (prefix_len (may_be_quoted q) bs) bs) ≡ true → prefix_len (may_be_quoted q) bs < length bs
quoted_some q bs h = elim (cases_lt (prefix_len (may_be_quoted q) bs) (length bs)) [
  | inl lt ↦ lt
  | inr ge ↦ absurd (both_ways _ (ap (begins_with q) (drop_all (prefix_len (may_be_quoted q) bs) bs ge)) h)
]

quoted_here : (q : ℕ) (bs : List ℕ) (n : ℕ) → is_quote q ≡ true → n ≡ quoted_len q bs → 0 < n → IsToken (q ∷ bs) Quoted (suc n)
quoted_here q bs n h is some =
    let m : ℕ = prefix_len (may_be_quoted q) bs in
    elim (cases_Bool (begins_with q (drop m bs))) [
      | inl yes_ ↦ (
          let len : n ≡ suc m = is ∙ (rw yes_ refl) in
          let ends = ends_at q bs yes_ in
          let is_one : is_quoted (q ∷ take (suc m) bs) ≡ true = and_from _ _ h ends in
          subst (λ (i : ℕ). IsToken (q ∷ bs) Quoted (suc i)) (sym len) (is_found (q ∷ bs) Quoted (suc (suc m)) (omega arith) (omega (arith, quoted_some q bs yes_)) (word_is_quoted q (take (suc m) bs) h ∙ is_one) (past q bs h) (quoted_kind q (take (suc m) bs) h is_one))
          )
      | inr no_ ↦ (let none : quoted_len q bs ≡ 0 = rw no_ refl in absurd (omega arith))
    ]
  where
    past : (q : ℕ) (bs : List ℕ) → is_quote q ≡ true → (j : ℕ) → suc (suc (prefix_len (may_be_quoted q) bs)) < j → j ≤ length (q ∷ bs) → is_token (take j (q ∷ bs)) ≡ false
    past q bs h zero lt le = absurd (omega arith)
    past q bs h (suc j) lt le = word_is_quoted q (take j bs) h ∙ and_right (is_quote q) _ (ends_nowhere q bs j (omega arith) (λ same. absurd (omega arith)))

no_quoted_here : (q : ℕ) (bs : List ℕ) → is_quote q ≡ true → quoted_len q bs ≡ 0 → token_len (q ∷ bs) ≡ 0
no_quoted_here q bs h is = longest_is is_token (q ∷ bs) 0 (length (q ∷ bs)) (omega arith) (λ lt. absurd (omega arith)) (past q bs h is)
  where
    closed : (q : ℕ) (bs : List ℕ) → quoted_len q bs ≡ 0 → begins_with q (drop (prefix_len (may_be_quoted q) bs) bs) ≡ false
    closed q bs is = elim (cases_Bool (begins_with q (drop (prefix_len (may_be_quoted q) bs) bs))) [
      | inl yes_ ↦ (let some : quoted_len q bs ≡ suc (prefix_len (may_be_quoted q) bs) = rw yes_ refl in absurd (omega arith))
      | inr no_ ↦ no_
    ]

    past : (q : ℕ) (bs : List ℕ) → is_quote q ≡ true → quoted_len q bs ≡ 0 → (j : ℕ) → 0 < j → j ≤ length (q ∷ bs) → is_token (take j (q ∷ bs)) ≡ false
    past q bs h is zero lt le = absurd (omega arith)
    past q bs h is (suc j) lt le = word_is_quoted q (take j bs) h ∙ and_right (is_quote q) _ (ends_nowhere q bs j (omega arith) (λ same. closed q bs is))

pub quoted_at_front : (s : List ℕ) (q : ℕ) (bs : List ℕ) (n : ℕ) → s ≡ q ∷ bs → is_quote q ≡ true → n ≡ quoted_len q bs → 0 < n → IsToken s Quoted (n + 1)
quoted_at_front s q bs n e h is some = subst (λ (t : List ℕ). IsToken t Quoted (n + 1)) (sym e) (rw add-one (quoted_here q bs n h is some))

pub no_quoted_at_front : (s : List ℕ) (q : ℕ) (bs : List ℕ) → s ≡ q ∷ bs → is_quote q ≡ true → quoted_len q bs ≡ 0 → token_len s ≡ 0
no_quoted_at_front s q bs e h is = ap token_len e ∙ no_quoted_here q bs h is

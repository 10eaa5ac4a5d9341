-- Punctuators, and decimals that begin with a dot, at the front of a text.
use Rattle.std.proofs.Common.{◌≡◌, ℕ, zero, suc, ◌+◌, ◌-◌, ◌≤◌, ◌<◌, Bool, true, false, ◌&&◌, ◌||◌, not, List, [], ◌∷◌, length, take, refl, sym, ap, subst, ◌∙◌, inl, inr, arith, eqb, add-one, add-zero, length-take-le}
use Rattle.std.specs.List.{prefix_len}
use Rattle.std.proofs.lemmas.Bool.{agree_below_at, and_parts, or_cases, or_parts, or_left, or_from, both_ways, eqb-true, not-true, false_from_ne_true}
use Rattle.std.proofs.lemmas.Bool.Decides.{nat_tests}
use Rattle.std.proofs.lemmas.List.{take-take}
use Rattle.std.proofs.lemmas.List.Sums.{prefix_len-le-length}
use Rattle.asm_lang_tokens.specs.Bytes.{is_digit, begins_name, is_quote}
use Rattle.asm_lang_tokens.specs.Forms.{is_some_of, is_punctuator, is_token, kind_of, punctuator, decimal}
use Rattle.asm_lang_tokens.specs.Text.{token_len}
use Rattle.asm_lang_tokens.proofs.Longest.{longest_is, front_passes, longer_fails}
use Rattle.asm_lang_tokens.proofs.Table.{of_punctuators, front_is_punctuator}
use Rattle.asm_lang_tokens.proofs.Classes.{name_needs, number_needs, decimal_needs, quoted_needs, word_is_sign}
use Rattle.js_tokens.specs.declared.token.TokenKind.TheVariants.{Decimal, Punct}
use Rattle.js_tokens.specs.Scan.{is_punct, is_punct1, takes_equals, doubles, is_punct2, is_punct3, is_punct4, begins_sign, IsToken}
use Rattle.js_tokens.proofs.Words.{is_found}

-- ---- the tests by length are the table

-- where the first test passes the second does
abbrev passes_too : Bool → Bool → Bool
passes_too a b = not a || b

then_too : (a b : Bool) → passes_too a b ≡ true → a ≡ true → b ≡ true
then_too a b h is = (ap (λ t. not t || b) (sym is)) ∙ h

one_byte : ℕ → Bool
one_byte a = passes_too (is_punct1 a) (is_punctuator (a ∷ []))

equals_after : ℕ → Bool
equals_after a = passes_too (takes_equals a) (is_punctuator (a ∷ 61 ∷ []))

itself_after : ℕ → Bool
itself_after a = passes_too (doubles a) (is_punctuator (a ∷ a ∷ []))

punct1_small : (a : ℕ) → is_punct1 a ≡ true → a < 127
punct1_small a h = grind (arith, nat_tests)

takes_equals_small : (a : ℕ) → takes_equals a ≡ true → a < 127
takes_equals_small a h = grind (arith, nat_tests)

doubles_small : (a : ℕ) → doubles a ≡ true → a < 127
doubles_small a h = grind (arith, nat_tests)

punct1_is : (a : ℕ) → is_punct1 a ≡ true → is_punctuator (a ∷ []) ≡ true
unfolding one_byte is_punctuator
punct1_is a h = let lt = punct1_small a h in then_too (is_punct1 a) _ (agree_below_at one_byte (λ _. true) 127 a refl lt) h

equals_after_is : (a : ℕ) → takes_equals a ≡ true → is_punctuator (a ∷ 61 ∷ []) ≡ true
unfolding equals_after is_punctuator
equals_after_is a h = let lt = takes_equals_small a h in then_too (takes_equals a) _ (agree_below_at equals_after (λ _. true) 127 a refl lt) h

itself_after_is : (a : ℕ) → doubles a ≡ true → is_punctuator (a ∷ a ∷ []) ≡ true
unfolding itself_after is_punctuator
itself_after_is a h = let lt = doubles_small a h in then_too (doubles a) _ (agree_below_at itself_after (λ _. true) 127 a refl lt) h

arrow_is : is_punctuator (61 ∷ 62 ∷ []) ≡ true
unfolding is_punctuator
arrow_is = refl

punct2_is : (a b : ℕ) → is_punct2 a b ≡ true → is_punctuator (a ∷ b ∷ []) ≡ true
punct2_is a b h =
    elim (or_cases (eqb b 61 && takes_equals a) _ h) [
      | inl equals ↦ (let parts = and_parts (eqb b 61) (takes_equals a) equals in ap (λ x. is_punctuator (a ∷ x ∷ [])) (eqb-true b 61 parts.0) ∙ equals_after_is a parts.1)
      | inr other ↦ elim (or_cases (eqb a b && doubles a) _ other) [
        | inl double ↦ (let parts = and_parts (eqb a b) (doubles a) double in ap (λ x. is_punctuator (a ∷ x ∷ [])) (sym (eqb-true a b parts.0)) ∙ itself_after_is a parts.1)
        | inr arrow ↦ (let parts = and_parts (eqb a 61) (eqb b 62) arrow in ap (λ x. is_punctuator (x ∷ b ∷ [])) (eqb-true a 61 parts.0) ∙ (ap (λ x. is_punctuator (61 ∷ x ∷ [])) (eqb-true b 62 parts.1) ∙ arrow_is))
      ]
    ]

-- three bytes that are each known
three : (a b c x y z : ℕ) → eqb a x ≡ true → eqb b y ≡ true → eqb c z ≡ true → is_punctuator (x ∷ y ∷ z ∷ []) ≡ true → is_punctuator (a ∷ b ∷ c ∷ []) ≡ true
three a b c x y z ax by cz is = ap (λ t. is_punctuator (t ∷ b ∷ c ∷ [])) (eqb-true a x ax) ∙ (ap (λ t. is_punctuator (x ∷ t ∷ c ∷ [])) (eqb-true b y by) ∙ (ap (λ t. is_punctuator (x ∷ y ∷ t ∷ [])) (eqb-true c z cz) ∙ is))

equals3 : is_punctuator (61 ∷ 61 ∷ 61 ∷ []) ≡ true
unfolding is_punctuator
equals3 = refl

differs3 : is_punctuator (33 ∷ 61 ∷ 61 ∷ []) ≡ true
unfolding is_punctuator
differs3 = refl

left3 : is_punctuator (60 ∷ 60 ∷ 61 ∷ []) ≡ true
unfolding is_punctuator
left3 = refl

right3 : is_punctuator (62 ∷ 62 ∷ 61 ∷ []) ≡ true
unfolding is_punctuator
right3 = refl

unsigned3 : is_punctuator (62 ∷ 62 ∷ 62 ∷ []) ≡ true
unfolding is_punctuator
unsigned3 = refl

unsigned4 : is_punctuator (62 ∷ 62 ∷ 62 ∷ 61 ∷ []) ≡ true
unfolding is_punctuator
unsigned4 = refl

punct3_is : (a b c : ℕ) → is_punct3 a b c ≡ true → is_punctuator (a ∷ b ∷ c ∷ []) ≡ true
punct3_is a b c h =
    elim (or_cases _ ((eqb a 62 && eqb b 62) && eqb c 62) h) [
      | inl equals ↦ (
          let at_last = and_parts (eqb c 61) _ equals in
          elim (or_cases (eqb b 61 && (eqb a 61 || eqb a 33)) _ at_last.1) [
            | inl first ↦ (
                let parts = and_parts (eqb b 61) _ first in
                elim (or_cases (eqb a 61) (eqb a 33) parts.1) [
                  | inl is ↦ three a b c 61 61 61 is parts.0 at_last.0 equals3
                  | inr is ↦ three a b c 33 61 61 is parts.0 at_last.0 differs3
                ]
                )
            | inr shift ↦ (
                let parts = and_parts (eqb a b) _ shift in
                let same : b ≡ a = sym (eqb-true a b parts.0) in
                elim (or_cases (eqb a 60) (eqb a 62) parts.1) [
                  | inl is ↦ three a b c 60 60 61 is (ap (λ t. eqb t 60) same ∙ is) at_last.0 left3
                  | inr is ↦ three a b c 62 62 61 is (ap (λ t. eqb t 62) same ∙ is) at_last.0 right3
                ]
                )
          ]
          )
      | inr unsigned ↦ (
          let parts = and_parts (eqb a 62 && eqb b 62) (eqb c 62) unsigned in
          let first = and_parts (eqb a 62) (eqb b 62) parts.0 in
          three a b c 62 62 62 first.0 first.1 parts.1 unsigned3
          )
    ]

punct4_is : (a b c d : ℕ) → is_punct4 a b c d ≡ true → is_punctuator (a ∷ b ∷ c ∷ d ∷ []) ≡ true
punct4_is a b c d h =
    let parts = and_parts (eqb a 62 && eqb b 62) (eqb c 62 && eqb d 61) h in
    let front = and_parts (eqb a 62) (eqb b 62) parts.0 in
    let back = and_parts (eqb c 62) (eqb d 61) parts.1 in
    let a_is = eqb-true a 62 front.0 in
    let b_is = eqb-true b 62 front.1 in
    let c_is = eqb-true c 62 back.0 in
    let d_is = eqb-true d 61 back.1 in
    let same : a ∷ b ∷ c ∷ d ∷ [] ≡ 62 ∷ 62 ∷ 62 ∷ 61 ∷ [] = cc in
    ap is_punctuator same ∙ unsigned4

punct_is : (bs : List ℕ) → is_punct bs ≡ true → is_punctuator bs ≡ true
punct_is [] h = absurd cc
punct_is (a ∷ []) h = punct1_is a h
punct_is (a ∷ b ∷ []) h = punct2_is a b h
punct_is (a ∷ b ∷ c ∷ []) h = punct3_is a b c h
punct_is (a ∷ b ∷ c ∷ d ∷ []) h = punct4_is a b c d h
punct_is (a ∷ b ∷ c ∷ d ∷ e ∷ bs) h = absurd cc

table_is : (bs : List ℕ) → is_punctuator bs ≡ true → is_punct bs ≡ true
table_is bs h = of_punctuators is_punct bs refl h

no_punct : (bs : List ℕ) → is_punct bs ≡ false → is_punctuator bs ≡ false
no_punct bs h = false_from_ne_true (is_punctuator bs) (λ is. both_ways (is_punct bs) h (table_is bs is))

-- ---- what has a front that is none is none

shorter : (bs : List ℕ) (m : ℕ) → suc (suc m) ≤ length bs → is_punctuator (take (suc (suc m)) bs) ≡ true → is_punctuator (take (suc m) bs) ≡ true
shorter bs m le is =
    let xs : List ℕ = take (suc (suc m)) bs in
    let len : length xs ≡ suc (suc m) = length-take-le (suc (suc m)) bs le in
    let front : is_punctuator (take (length xs - 1) xs) ≡ true = front_is_punctuator xs is (omega arith) in
    let one_less : length xs - 1 ≡ suc m = omega arith in
    let same : take (suc m) xs ≡ take (suc m) bs = take-take (suc m) (suc (suc m)) bs (omega arith) in
    ap is_punctuator (sym same) ∙ (ap (λ i. is_punctuator (take i xs)) (sym one_less) ∙ front)

no_longer : (bs : List ℕ) (n j : ℕ) → suc (n + j) ≤ length bs → is_punctuator (take (suc n) bs) ≡ false → is_punctuator (take (suc (n + j)) bs) ≡ false
no_longer bs n zero le h = rw add-zero h
no_longer bs n (suc j) le h =
    let before = no_longer bs n j (omega arith) h in
    let same : suc (n + suc j) ≡ suc (suc (n + j)) = omega arith in
    rw same (false_from_ne_true (is_punctuator (take (suc (suc (n + j))) bs)) (λ e. both_ways _ before (shorter bs (n + j) (omega arith) e)))

-- ---- punctuators at the front

sign_parts : (b : ℕ) (bs : List ℕ) → begins_sign (b ∷ bs) ≡ true → (((begins_name b || is_digit b) || is_quote b) ≡ false) × (eqb b 46 ≡ false)
sign_parts b bs h = or_parts ((begins_name b || is_digit b) || is_quote b) (eqb b 46) (not-true _ h)

sign_kind : (b : ℕ) (bs : List ℕ) → begins_sign (b ∷ bs) ≡ true → kind_of (b ∷ bs) ≡ punctuator
sign_kind b bs h =
    let parts = sign_parts b bs h in
    let apart = or_parts (begins_name b || is_digit b) (is_quote b) parts.0 in
    let first = or_parts (begins_name b) (is_digit b) apart.0 in
    rw (name_needs b bs first.0, number_needs b bs first.1, decimal_needs b bs first.1 parts.1, quoted_needs b bs apart.1) refl

sign_past : (b : ℕ) (bs : List ℕ) (n : ℕ) → begins_sign (b ∷ bs) ≡ true → (n < length (b ∷ bs) → is_punct (take (n + 1) (b ∷ bs)) ≡ false) → (k : ℕ) → n < k → k ≤ length (b ∷ bs) → is_token (take k (b ∷ bs)) ≡ false
sign_past b bs n h more zero lt le = absurd (omega arith)
sign_past b bs n h more (suc k) lt le =
    let parts = sign_parts b bs h in
    let not_one : is_punctuator (take (suc n) (b ∷ bs)) ≡ false = no_punct (take (suc n) (b ∷ bs)) (rw add-one at (more (omega arith))) in
    let same : suc k ≡ suc (n + (k - n)) = omega arith in
    let not_k : is_punctuator (take (suc k) (b ∷ bs)) ≡ false = ap (λ i. is_punctuator (take i (b ∷ bs))) same ∙ no_longer (b ∷ bs) n (k - n) (omega arith) not_one in
    word_is_sign b (take k bs) parts.0 parts.1 ∙ not_k

pub punct_at_front : (s : List ℕ) (n : ℕ) → begins_sign s ≡ true → n ≤ length s → (0 < n → is_punct (take n s) ≡ true) → (n < length s → is_punct (take (n + 1) s) ≡ false) → 0 < n → IsToken s Punct n
punct_at_front [] n h le here more some = absurd cc
punct_at_front (b ∷ bs) zero h le here more some = absurd (omega arith)
punct_at_front (b ∷ bs) (suc n) h le here more some =
    let parts = sign_parts b bs h in
    is_found (b ∷ bs) Punct (suc n) some le (word_is_sign b (take n bs) parts.0 parts.1 ∙ punct_is (b ∷ take n bs) (here some)) (sign_past b bs (suc n) h more) (sign_kind b (take n bs) h)

pub no_punct_at_front : (s : List ℕ) (n : ℕ) → begins_sign s ≡ true → (n < length s → is_punct (take (n + 1) s) ≡ false) → n ≡ 0 → token_len s ≡ 0
no_punct_at_front [] n h more none = absurd cc
no_punct_at_front (b ∷ bs) n h more none =
    let P : ℕ → Type 0 = λ i. i < length (b ∷ bs) → is_punct (take (i + 1) (b ∷ bs)) ≡ false in
    longest_is is_token (b ∷ bs) 0 (length (b ∷ bs)) (omega arith) (λ lt. absurd (omega arith)) (sign_past b bs 0 h (subst P none more))

-- ---- a dot at the front

-- whether no more follows a dot
dot_is_last : List ℕ → Bool
dot_is_last [] = true
dot_is_last (b ∷ []) = true
dot_is_last (b ∷ c ∷ bs) = not (eqb b 46)

dot_no_longer : (c : ℕ) (bs : List ℕ) → is_punctuator (46 ∷ c ∷ bs) ≡ false
unfolding dot_is_last
dot_no_longer c bs = false_from_ne_true (is_punctuator (46 ∷ c ∷ bs)) (λ is. let last : false ≡ true = of_punctuators dot_is_last (46 ∷ c ∷ bs) refl is in absurd cc)

dot_is : is_punctuator (46 ∷ []) ≡ true
unfolding is_punctuator
dot_is = refl

dot_token : (ys : List ℕ) → is_token (46 ∷ ys) ≡ (is_some_of is_digit ys || is_punctuator (46 ∷ ys))
dot_token ys = rw (number_needs 46 ys refl) refl

dot_past : (bs : List ℕ) (j : ℕ) → suc (prefix_len is_digit bs) < j → 1 < j → j ≤ length (46 ∷ bs) → is_token (take j (46 ∷ bs)) ≡ false
dot_past bs zero lt some le = absurd (omega arith)
dot_past bs (suc zero) lt some le = absurd (omega arith)
dot_past [] (suc (suc k)) lt some le = absurd (omega arith)
dot_past (b ∷ bs) (suc (suc k)) lt some le = dot_token (b ∷ take k bs) ∙ or_from _ _ (longer_fails is_digit (b ∷ bs) (suc k) (omega arith) (omega arith)) (dot_no_longer b (take k bs))

some_digits : (bs : List ℕ) (n : ℕ) → 0 < n → n ≤ prefix_len is_digit bs → is_some_of is_digit (take n bs) ≡ true
some_digits bs zero some le = absurd (omega arith)
some_digits [] (suc n) some le = absurd (omega arith)
some_digits (b ∷ bs) (suc n) some le = front_passes is_digit (b ∷ bs) (suc n) le

pub decimal_after_dot : (bs : List ℕ) (n : ℕ) → n ≡ prefix_len is_digit bs → 0 < n → IsToken (46 ∷ bs) Decimal (n + 1)
decimal_after_dot bs n is some =
    let digits : is_some_of is_digit (take n bs) ≡ true = some_digits bs n some (omega arith) in
    let kind : kind_of (46 ∷ take n bs) ≡ decimal = rw (number_needs 46 (take n bs) refl, digits) refl in
    let e : suc n ≡ n + 1 = omega arith in
    subst (IsToken (46 ∷ bs) Decimal) e
    (is_found (46 ∷ bs) Decimal (suc n) (omega arith) (omega (arith, prefix_len-le-length is_digit bs)) (dot_token (take n bs) ∙ or_left _ (is_punctuator (46 ∷ take n bs)) digits) (λ j lt le. dot_past bs j (omega arith) (omega arith) le) kind)

pub dot_alone : (bs : List ℕ) (n : ℕ) → n ≡ prefix_len is_digit bs → n ≡ 0 → IsToken (46 ∷ bs) Punct 1
dot_alone bs n is none = is_found (46 ∷ bs) Punct 1 (omega arith) (omega arith) (dot_token [] ∙ dot_is) (λ j lt le. dot_past bs j (omega arith) lt le) refl

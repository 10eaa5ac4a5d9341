-- Numbers and decimals at the front of a text.
use Rattle.std.proofs.Common.{◌≡◌, ℕ, zero, suc, ◌+◌, ◌-◌, ◌*◌, ◌^◌, ◌≤◌, ◌<◌, Bool, true, false, ◌&&◌, ◌||◌, not, cond, List, [], ◌∷◌, ◌++◌, length, get_or, take, drop, refl, sym, ap, subst, ◌∙◌, inl, inr, arith, eqb, ltb, leb, length-drop, lit<}
use Rattle.std.specs.List.{list_all, prefix_len}
use Rattle.std.proofs.lemmas.Bool.{cases_Bool, and_from, and_parts, and_left, and_right, and_cases, or_left, or_right, or_from, both_ways, lt-ltb, leb-true, ltb-true, ltb-false, le-ltb, not-true}
use Rattle.std.proofs.lemmas.Bool.Decides.{nat_tests}
use Rattle.std.proofs.lemmas.List.{at_drop_more, take_more}
use Rattle.std.proofs.lemmas.List.Sums.{prefix_len-le-length}
use Rattle.asm_lang_tokens.specs.Bytes.{is_digit, is_hexadecimal_digit, digit_value, is_hexadecimal_mark}
use Rattle.asm_lang_tokens.specs.Forms.{is_empty, is_name, is_some_of, value_in, is_number, number_value, is_fraction, ends_in_fraction, is_decimal, is_token, kind_of, number, decimal}
use Rattle.asm_lang_tokens.proofs.Longest.{prefix_len-yes, prefix_len-no, front_passes, longer_fails}
use Rattle.asm_lang_tokens.proofs.Classes.{digit_not_name, digit_not_dot, name_needs, word_is_numeral}
use Rattle.js_tokens.specs.declared.token.TokenKind.TheVariants.{Number, Decimal}
use Rattle.js_tokens.specs.declared.numbers.Base.{Base}
use Rattle.js_tokens.specs.declared.numbers.Base.TheVariants.{Ten, Sixteen}
use Rattle.js_tokens.specs.Scan.{number_of, is_digit_in, fits_in, value_len, fraction_len, begins_mark, begins_nonzero, IsToken}
use Rattle.js_tokens.proofs.Words.{is_found}

or_false : (t : Bool) → (t || false) ≡ t
or_false true = refl
or_false false = refl

-- ---- a step of the loop over digits

pub one_digit : (base : Base) (s : List ℕ) (n v : ℕ) → n < length s → fits_in base v (get_or s n 0) ≡ true
    → n + 1 + value_len base (number_of base * v + digit_value (get_or s n 0)) (drop (n + 1) s) ≡ n + value_len base v (drop n s)
one_digit base s n v lt h = rw (at_drop_more (value_len base v) s n 0 lt, h) (omega arith)

value_in-last : (base n : ℕ) (ds : List ℕ) (d : ℕ) → value_in base n (ds ++ d ∷ []) ≡ base * value_in base n ds + digit_value d
value_in-last base n [] d = refl
value_in-last base n (c ∷ ds) d = value_in-last base (base * n + digit_value c) ds d

pub value-more : (base : ℕ) (s : List ℕ) (n : ℕ) → n < length s → value_in base 0 (take (n + 1) s) ≡ base * value_in base 0 (take n s) + digit_value (get_or s n 0)
value-more base s n lt = ap (value_in base 0) (take_more s n 0 lt) ∙ value_in-last base 0 (take n s) (get_or s n 0)

-- ---- digits whose value stays below 2^64

value_in-ge : (base : Base) (n : ℕ) (ds : List ℕ) → n ≤ value_in (number_of base) n ds
value_in-ge base n [] = omega arith
value_in-ge Ten n (d ∷ ds) = omega (arith, value_in-ge Ten (10 * n + digit_value d) ds)
value_in-ge Sixteen n (d ∷ ds) = omega (arith, value_in-ge Sixteen (16 * n + digit_value d) ds)

-- digits of a base, of a value below 2^64
abbrev fits : Base → ℕ → List ℕ → Bool
fits base n ds = list_all (is_digit_in base) ds && ltb (value_in (number_of base) n ds) (2 ^ 64)

fits_here : (base : Base) (n : ℕ) (bs : List ℕ) (k : ℕ) → n < 2 ^ 64 → k ≤ value_len base n bs → fits base n (take k bs) ≡ true
fits_here base n [] zero small le = lt-ltb n (2 ^ 64) small
fits_here base n [] (suc k) small le = lt-ltb n (2 ^ 64) small
fits_here base n (d ∷ ds) zero small le = lt-ltb n (2 ^ 64) small
fits_here base n (d ∷ ds) (suc k) small le =
    let next : ℕ = number_of base * n + digit_value d in
    let P : Bool → Type 0 = λ t. fits_in base n d ≡ t → (suc k ≤ cond t (suc (value_len base next ds)) 0) → ((is_digit_in base d && list_all (is_digit_in base) (take k ds)) && ltb (value_in (number_of base) next (take k ds)) (2 ^ 64)) ≡ true in
    let both : P (fits_in base n d) = elim (fits_in base n d) as P [
      | true ↦ λ is h. let parts = and_parts (is_digit_in base d) (ltb next (2 ^ 64)) is in rw parts.0 (fits_here base next ds k (ltb-true _ _ parts.1) (omega arith))
      | false ↦ λ is h. absurd (omega arith)
    ] in
    both refl le

fits_no_longer : (base : Base) (n : ℕ) (bs : List ℕ) (k : ℕ) → value_len base n bs < k → k ≤ length bs → fits base n (take k bs) ≡ false
fits_no_longer base n [] k lt le = absurd (omega arith)
fits_no_longer base n (d ∷ ds) zero lt le = absurd (omega arith)
fits_no_longer base n (d ∷ ds) (suc k) lt le =
    let next : ℕ = number_of base * n + digit_value d in
    let P : Bool → Type 0 = λ t. fits_in base n d ≡ t → (cond t (suc (value_len base next ds)) 0 < suc k) → ((is_digit_in base d && list_all (is_digit_in base) (take k ds)) && ltb (value_in (number_of base) next (take k ds)) (2 ^ 64)) ≡ false in
    let both : P (fits_in base n d) = elim (fits_in base n d) as P [
      | true ↦ λ is h. let parts = and_parts (is_digit_in base d) (ltb next (2 ^ 64)) is in rw parts.0 (fits_no_longer base next ds k (omega arith) (omega arith))
      | false ↦ λ is h. elim (and_cases (is_digit_in base d) (ltb next (2 ^ 64)) is) [
        | inl no_digit ↦ rw no_digit refl
        | inr large ↦ (
            let high : 2 ^ 64 ≤ value_in (number_of base) next (take k ds) = omega (arith, ltb-false next (2 ^ 64) large, value_in-ge base next (take k ds)) in
            and_right (is_digit_in base d && list_all (is_digit_in base) (take k ds)) (ltb (value_in (number_of base) next (take k ds)) (2 ^ 64)) (le-ltb (value_in (number_of base) next (take k ds)) (2 ^ 64) high)
            )
      ]
    ] in
    both refl lt

value_len-le : (base : Base) (n : ℕ) (bs : List ℕ) → value_len base n bs ≤ length bs
value_len-le base n [] = omega arith
value_len-le base n (b ∷ bs) =
    let next : ℕ = number_of base * n + digit_value b in
    elim (fits_in base n b) as (λ t. cond t (suc (value_len base next bs)) 0 ≤ suc (length bs)) [
      | true ↦ omega (arith, value_len-le base next bs)
      | false ↦ omega arith
    ]

-- ---- a dot and the digits after it

fraction_here : (bs : List ℕ) → 0 < fraction_len bs → is_fraction (take (fraction_len bs) bs) ≡ true
fraction_here [] lt = absurd (omega arith)
fraction_here (b ∷ bs) lt =
    elim (cases_Bool (eqb b 46)) [
      | inl dot ↦ (
          let e : fraction_len (b ∷ bs) ≡ suc (prefix_len is_digit bs) = rw dot refl in
          subst (λ (n : ℕ). is_fraction (take n (b ∷ bs)) ≡ true) (sym e) (and_from _ _ dot (front_passes is_digit bs (prefix_len is_digit bs) (omega arith)))
          )
      | inr other ↦ (let e : fraction_len (b ∷ bs) ≡ 0 = rw other refl in absurd (omega arith))
    ]

fraction_no_longer : (bs : List ℕ) (k : ℕ) → fraction_len bs < k → k ≤ length bs → is_fraction (take k bs) ≡ false
fraction_no_longer [] k lt le = absurd (omega arith)
fraction_no_longer (b ∷ bs) zero lt le = absurd (omega arith)
fraction_no_longer (b ∷ bs) (suc k) lt le =
    elim (cases_Bool (eqb b 46)) [
      | inl dot ↦ (
          let e : fraction_len (b ∷ bs) ≡ suc (prefix_len is_digit bs) = rw dot refl in
          and_right (eqb b 46) _ (longer_fails is_digit bs k (omega arith) (omega arith))
          )
      | inr other ↦ and_left (eqb b 46) (list_all is_digit (take k bs)) other
    ]

fraction_len-le : (bs : List ℕ) → fraction_len bs ≤ length bs
fraction_len-le [] = omega arith
fraction_len-le (b ∷ bs) = elim (eqb b 46) as (λ t. cond t (suc (prefix_len is_digit bs)) 0 ≤ suc (length bs)) [
  | true ↦ omega (arith, prefix_len-le-length is_digit bs)
  | false ↦ omega arith
]

-- ---- after a 0

-- `0`, a mark and hexadecimal digits
marked_number : (x : ℕ) (ys : List ℕ) → is_hexadecimal_mark x ≡ true → is_number (48 ∷ x ∷ ys) ≡ (is_some_of is_hexadecimal_digit ys && ltb (value_in 16 0 ys) (2 ^ 64))
marked_number x ys h = rw h refl

mark_not_dot : (x : ℕ) → is_hexadecimal_mark x ≡ true → eqb x 46 ≡ false
mark_not_dot x h = grind (arith, nat_tests)

marked_token : (x : ℕ) (ys : List ℕ) → is_hexadecimal_mark x ≡ true → is_token (48 ∷ x ∷ ys) ≡ (is_some_of is_hexadecimal_digit ys && ltb (value_in 16 0 ys) (2 ^ 64))
marked_token x ys h = word_is_numeral 48 (x ∷ ys) refl ∙ rw (marked_number x ys h, mark_not_dot x h) (or_false (is_some_of is_hexadecimal_digit ys && ltb (value_in 16 0 ys) (2 ^ 64)))

some_past : (bs : List ℕ) (k : ℕ) → value_len Sixteen 0 bs < k → k ≤ length bs → (is_some_of is_hexadecimal_digit (take k bs) && ltb (value_in 16 0 (take k bs)) (2 ^ 64)) ≡ false
some_past [] k lt le = absurd (omega arith)
some_past (b ∷ bs) zero lt le = absurd (omega arith)
some_past (b ∷ bs) (suc k) lt le = fits_no_longer Sixteen 0 (b ∷ bs) (suc k) lt le

some_here : (bs : List ℕ) (k : ℕ) → 0 < k → k ≡ value_len Sixteen 0 bs → (is_some_of is_hexadecimal_digit (take k bs) && ltb (value_in 16 0 (take k bs)) (2 ^ 64)) ≡ true
some_here bs zero lt is = absurd (omega arith)
some_here [] (suc k) lt is = absurd (omega arith)
some_here (b ∷ bs) (suc k) lt is = fits_here Sixteen 0 (b ∷ bs) (suc k) (lit< tt) (omega arith)

marked_past : (x : ℕ) (bs : List ℕ) → is_hexadecimal_mark x ≡ true → (j : ℕ) → 2 + value_len Sixteen 0 bs < j → j ≤ length (48 ∷ x ∷ bs) → is_token (take j (48 ∷ x ∷ bs)) ≡ false
marked_past x bs h zero lt le = absurd (omega arith)
marked_past x bs h (suc zero) lt le = absurd (omega arith)
marked_past x bs h (suc (suc k)) lt le = marked_token x (take k bs) h ∙ some_past bs k (omega arith) (omega arith)

number_kind : (bs : List ℕ) (v : ℕ) → is_name bs ≡ false → is_number bs ≡ true → number_value bs ≡ v → kind_of bs ≡ number v
number_kind bs v no_name is e = rw (no_name, is) (ap number e)

decimal_kind : (bs : List ℕ) → is_name bs ≡ false → is_number bs ≡ false → is_decimal bs ≡ true → kind_of bs ≡ decimal
decimal_kind bs no_name no_number is = rw (no_name, no_number, is) refl

hexadecimal_here : (x : ℕ) (bs : List ℕ) (n v : ℕ) → is_hexadecimal_mark x ≡ true → n ≡ value_len Sixteen 0 bs → v ≡ value_in 16 0 (take n bs) → 0 < n → IsToken (48 ∷ x ∷ bs) (Number v) (suc (suc n))
hexadecimal_here x bs n v h is value some =
    let good = some_here bs n some is in
    let kind : kind_of (48 ∷ x ∷ take n bs) ≡ number v = number_kind (48 ∷ x ∷ take n bs) v refl (marked_number x (take n bs) h ∙ good) (rw h (sym value)) in
    is_found (48 ∷ x ∷ bs) (Number v) (suc (suc n)) (omega arith) (omega (arith, value_len-le Sixteen 0 bs)) (marked_token x (take n bs) h ∙ good) (λ j lt le. marked_past x bs h j (omega arith) le) kind

pub hexadecimal_after : (ys : List ℕ) (n v : ℕ) → begins_mark ys ≡ true → n ≡ value_len Sixteen 0 (drop 1 ys) → v ≡ value_in 16 0 (take n (drop 1 ys)) → (n ≡ 0 → ⊥) → IsToken (48 ∷ ys) (Number v) (n + 2)
hexadecimal_after [] n v h is value some = absurd cc
hexadecimal_after (x ∷ bs) n v h is value some =
    let e : suc (suc n) ≡ n + 2 = omega arith in
    subst (IsToken (48 ∷ x ∷ bs) (Number v)) e (hexadecimal_here x bs n v h is value (omega arith))

pub zero_before_mark : (ys : List ℕ) (n : ℕ) → begins_mark ys ≡ true → n ≡ value_len Sixteen 0 (drop 1 ys) → n ≡ 0 → IsToken (48 ∷ ys) (Number 0) 1
zero_before_mark [] n h is none = absurd cc
zero_before_mark (x ∷ bs) n h is none = is_found (48 ∷ x ∷ bs) (Number 0) 1 (omega arith) (omega arith) (word_is_numeral 48 [] refl) (past x bs n h is none) refl
  where
    past : (x : ℕ) (bs : List ℕ) (n : ℕ) → is_hexadecimal_mark x ≡ true → n ≡ value_len Sixteen 0 bs → n ≡ 0 → (j : ℕ) → 1 < j → j ≤ length (48 ∷ x ∷ bs) → is_token (take j (48 ∷ x ∷ bs)) ≡ false
    past x bs n h is none zero lt le = absurd (omega arith)
    past x bs n h is none (suc zero) lt le = absurd (omega arith)
    past x bs n h is none (suc (suc zero)) lt le = marked_token x [] h
    past x bs n h is none (suc (suc (suc k))) lt le = marked_past x bs h (suc (suc (suc k))) (omega arith) le

-- with no mark after it
unmarked_number : (ys : List ℕ) → begins_mark ys ≡ false → is_number (48 ∷ ys) ≡ is_empty ys
unmarked_number [] h = refl
unmarked_number (y ∷ ys) h = rw h refl

unmarked_token : (ys : List ℕ) → begins_mark ys ≡ false → is_token (48 ∷ ys) ≡ (is_empty ys || is_fraction ys)
unmarked_token ys h = word_is_numeral 48 ys refl ∙ rw (unmarked_number ys h) refl

still_unmarked : (ys : List ℕ) (k : ℕ) → begins_mark ys ≡ false → begins_mark (take k ys) ≡ false
still_unmarked ys zero h = refl
still_unmarked [] (suc k) h = refl
still_unmarked (y ∷ ys) (suc k) h = h

not_empty : (ys : List ℕ) (k : ℕ) → 0 < k → k ≤ length ys → is_empty (take k ys) ≡ false
not_empty ys zero lt le = absurd (omega arith)
not_empty [] (suc k) lt le = absurd (omega arith)
not_empty (y ∷ ys) (suc k) lt le = refl

unmarked_past : (ys : List ℕ) → begins_mark ys ≡ false → (j : ℕ) → suc (fraction_len ys) < j → j ≤ length (48 ∷ ys) → is_token (take j (48 ∷ ys)) ≡ false
unmarked_past ys h zero lt le = absurd (omega arith)
unmarked_past ys h (suc k) lt le =
    unmarked_token (take k ys) (still_unmarked ys k h) ∙ or_from (is_empty (take k ys)) (is_fraction (take k ys)) (not_empty ys k (omega arith) (omega arith)) (fraction_no_longer ys k (omega arith) (omega arith))

pub zero_alone : (ys : List ℕ) (n : ℕ) → begins_mark ys ≡ false → n ≡ fraction_len ys → n ≡ 0 → IsToken (48 ∷ ys) (Number 0) 1
zero_alone ys n h is none = is_found (48 ∷ ys) (Number 0) 1 (omega arith) (omega arith) (word_is_numeral 48 [] refl) (λ j lt le. unmarked_past ys h j (omega arith) le) refl

pub zero_decimal : (ys : List ℕ) (n : ℕ) → begins_mark ys ≡ false → n ≡ fraction_len ys → 0 < n → IsToken (48 ∷ ys) Decimal (n + 1)
zero_decimal ys n h is some =
    let f : ℕ = fraction_len ys in
    let a_fraction : is_fraction (take f ys) ≡ true = fraction_here ys (omega arith) in
    let no_mark : begins_mark (take f ys) ≡ false = still_unmarked ys f h in
    let no_number : is_number (48 ∷ take f ys) ≡ false = unmarked_number (take f ys) no_mark ∙ not_empty ys f (omega arith) (fraction_len-le ys) in
    let e : suc f ≡ n + 1 = omega arith in
    subst (IsToken (48 ∷ ys) Decimal) e
    (is_found (48 ∷ ys) Decimal (suc f) (omega arith) (omega (arith, fraction_len-le ys)) (unmarked_token (take f ys) no_mark ∙ or_right (is_empty (take f ys)) _ a_fraction) (unmarked_past ys h) (decimal_kind (48 ∷ take f ys) refl no_number a_fraction))

-- ---- after another digit

mark_no_digit : (x : ℕ) → is_hexadecimal_mark x ≡ true → is_digit x ≡ false
mark_no_digit x h = grind (arith, nat_tests)

digits_number : (d : ℕ) (ys : List ℕ) → is_digit d ≡ true → eqb d 48 ≡ false → is_number (d ∷ ys) ≡ fits Ten 0 (d ∷ ys)
digits_number d [] h e = let same : digit_value d ≡ 10 * 0 + digit_value d = omega arith in rw e (ap (λ n. ((is_digit d && true) || false) && ltb n (2 ^ 64)) same ∙ ap (λ t. t && ltb (10 * 0 + digit_value d) (2 ^ 64)) (or_false (is_digit d && true)))
digits_number d (y ∷ ys) h e =
    elim (cases_Bool (is_hexadecimal_mark y)) [
      | inl yes_ ↦ rw (e, yes_, mark_no_digit y yes_, h) refl
      | inr no_ ↦ rw (e, no_) (ap (λ t. t && ltb (value_in 10 0 (d ∷ y ∷ ys)) (2 ^ 64)) (or_false (is_digit d && list_all is_digit (y ∷ ys))))
    ]

digits_decimal : (d : ℕ) (ys : List ℕ) → is_digit d ≡ true → eqb d 48 ≡ false → is_decimal (d ∷ ys) ≡ ends_in_fraction ys
digits_decimal d ys h e = rw (digit_not_dot d h, e, h) refl

digits_token : (d : ℕ) (ys : List ℕ) → is_digit d ≡ true → eqb d 48 ≡ false → is_token (d ∷ ys) ≡ (fits Ten 0 (d ∷ ys) || ends_in_fraction ys)
digits_token d ys h e = word_is_numeral d ys h ∙ rw (digits_number d ys h e, digits_decimal d ys h e) refl

digits_value : (d : ℕ) (ys : List ℕ) → list_all is_digit (d ∷ ys) ≡ true → number_value (d ∷ ys) ≡ value_in 10 0 (d ∷ ys)
digits_value d [] h = omega arith
digits_value d (y ∷ ys) h =
    let a_digit : is_digit y ≡ true = (and_parts (is_digit y) (list_all is_digit ys) (and_parts (is_digit d) (is_digit y && list_all is_digit ys) h).1).0 in
    elim (cases_Bool (is_hexadecimal_mark y)) [
      | inl yes_ ↦ absurd (both_ways (is_digit y) (mark_no_digit y yes_) a_digit)
      | inr no_ ↦ rw no_ refl
    ]

fraction_ends : (ys : List ℕ) → is_fraction ys ≡ true → ends_in_fraction ys ≡ true
fraction_ends [] h = absurd cc
fraction_ends (y ∷ ys) h = or_left (is_fraction (y ∷ ys)) _ h

-- how many bytes the digits at the front take, and what follows them
abbrev ended : List ℕ → ℕ
ended bs = fraction_len (drop (prefix_len is_digit bs) bs)

end_here : (bs : List ℕ) → 0 < ended bs → ends_in_fraction (take (prefix_len is_digit bs + ended bs) bs) ≡ true
end_here [] lt = absurd (omega arith)
end_here (b ∷ bs) lt =
    elim (cases_Bool (is_digit b)) [
      | inl yes_ ↦ (
          let m : ℕ = prefix_len is_digit bs in
          let e = prefix_len-yes is_digit b bs yes_ in
          let P : ℕ → Type 0 = λ i. 0 < fraction_len (drop i (b ∷ bs)) → ends_in_fraction (take (i + fraction_len (drop i (b ∷ bs))) (b ∷ bs)) ≡ true in
          let same : suc m + ended bs ≡ suc (m + ended bs) = omega arith in
          let there : P (suc m) = λ some. rw same (or_right (is_fraction (b ∷ take (m + ended bs) bs)) _ (and_from _ _ yes_ (end_here bs some))) in
          subst P (sym e) there lt
          )
      | inr no_ ↦ (
          let e = prefix_len-no is_digit b bs no_ in
          let P : ℕ → Type 0 = λ i. 0 < fraction_len (drop i (b ∷ bs)) → ends_in_fraction (take (i + fraction_len (drop i (b ∷ bs))) (b ∷ bs)) ≡ true in
          let same : 0 + fraction_len (b ∷ bs) ≡ fraction_len (b ∷ bs) = omega arith in
          let there : P 0 = λ some. rw same (fraction_ends (take (fraction_len (b ∷ bs)) (b ∷ bs)) (fraction_here (b ∷ bs) some)) in
          subst P (sym e) there lt
          )
    ]

end_past : (bs : List ℕ) (k : ℕ) → k ≤ length bs → (0 < ended bs → prefix_len is_digit bs + ended bs < k) → ends_in_fraction (take k bs) ≡ false
end_past bs zero le h = refl
end_past [] (suc k) le h = absurd (omega arith)
end_past (b ∷ bs) (suc k) le h =
    let P : ℕ → Type 0 = λ i. 0 < fraction_len (drop i (b ∷ bs)) → i + fraction_len (drop i (b ∷ bs)) < suc k in
    elim (cases_Bool (is_digit b)) [
      | inl yes_ ↦ (
          let later : P (suc (prefix_len is_digit bs)) = subst P (prefix_len-yes is_digit b bs yes_) h in
          or_from _ _ (and_left (eqb b 46) _ (digit_not_dot b yes_)) (and_right (is_digit b) _ (end_past bs k (omega arith) (λ some. let lt = later some in omega arith)))
          )
      | inr no_ ↦ (
          let later : P 0 = subst P (prefix_len-no is_digit b bs no_) h in
          or_from _ _ (fraction_no_longer (b ∷ bs) (suc k) (short (fraction_len (b ∷ bs)) k later) le) (and_left (is_digit b) _ no_)
          )
    ]
  where
    short : (f k : ℕ) → (0 < f → 0 + f < suc k) → f < suc k
    short zero k h = omega arith
    short (suc f) k h = let lt = h (omega arith) in omega arith

digit_value-le : (d : ℕ) → digit_value d ≤ d
digit_value-le d =
    elim (leb 97 d) as (λ t. cond t (d - 87) (cond (leb 65 d) (d - 55) (d - 48)) ≤ d) [
      | true ↦ omega arith
      | false ↦ elim (leb 65 d) as (λ t. cond t (d - 55) (d - 48) ≤ d) [ true ↦ omega arith | false ↦ omega arith ]
    ]

first_fits : (d : ℕ) → is_digit d ≡ true → fits_in Ten 0 d ≡ true
first_fits d h =
    let low = leb-true _ _ (and_parts (leb 48 d) (leb d 57) h).1 in
    and_from _ _ h (lt-ltb (10 * 0 + digit_value d) (2 ^ 64) (omega (arith, digit_value-le d)))

nonzero_parts : (d : ℕ) (bs : List ℕ) → begins_nonzero (d ∷ bs) ≡ true → (is_digit d ≡ true) × (eqb d 48 ≡ false)
nonzero_parts d bs h = let parts = and_parts (is_digit d) (not (eqb d 48)) h in (parts.0, not-true (eqb d 48) parts.1)

digits_here : (d : ℕ) (bs : List ℕ) (n v : ℕ) → is_digit d ≡ true → eqb d 48 ≡ false → ended bs ≡ 0 → suc n ≡ value_len Ten 0 (d ∷ bs) → v ≡ value_in 10 0 (take (suc n) (d ∷ bs)) → IsToken (d ∷ bs) (Number v) (suc n)
digits_here d bs n v h e none is value =
    let good : fits Ten 0 (d ∷ take n bs) ≡ true = fits_here Ten 0 (d ∷ bs) (suc n) (lit< tt) (omega arith) in
    let all = (and_parts (list_all is_digit (d ∷ take n bs)) _ good).0 in
    let kind : kind_of (d ∷ take n bs) ≡ number v = number_kind (d ∷ take n bs) v (name_needs d (take n bs) (digit_not_name d h)) (digits_number d (take n bs) h e ∙ good) (digits_value d (take n bs) all ∙ sym value) in
    is_found (d ∷ bs) (Number v) (suc n) (omega arith) (omega (arith, value_len-le Ten 0 (d ∷ bs))) (digits_token d (take n bs) h e ∙ or_left _ (ends_in_fraction (take n bs)) good) (past d bs n h e none is) kind
  where
    past : (d : ℕ) (bs : List ℕ) (n : ℕ) → is_digit d ≡ true → eqb d 48 ≡ false → ended bs ≡ 0 → suc n ≡ value_len Ten 0 (d ∷ bs) → (j : ℕ) → suc n < j → j ≤ length (d ∷ bs) → is_token (take j (d ∷ bs)) ≡ false
    past d bs n h e none is zero lt le = absurd (omega arith)
    past d bs n h e none is (suc j) lt le =
        digits_token d (take j bs) h e ∙ or_from (fits Ten 0 (d ∷ take j bs)) (ends_in_fraction (take j bs)) (fits_no_longer Ten 0 (d ∷ bs) (suc j) (omega arith) le) (end_past bs j (omega arith) (λ some. absurd (omega arith)))

pub digits_at_front : (s : List ℕ) (m f n v : ℕ) → begins_nonzero s ≡ true → m ≡ prefix_len is_digit s → f ≡ fraction_len (drop m s) → f ≡ 0 → n ≡ value_len Ten 0 s → v ≡ value_in 10 0 (take n s) → IsToken s (Number v) n
digits_at_front [] m f n v h m_is f_is none is value = absurd cc
digits_at_front (d ∷ bs) m f zero v h m_is f_is none is value =
    let parts = nonzero_parts d bs h in
    let some : value_len Ten 0 (d ∷ bs) ≡ suc (value_len Ten (10 * 0 + digit_value d) bs) = rw (first_fits d parts.0) refl in
    absurd (omega arith)
digits_at_front (d ∷ bs) m f (suc n) v h m_is f_is none is value =
    let parts = nonzero_parts d bs h in
    let same : m ≡ suc (prefix_len is_digit bs) = m_is ∙ prefix_len-yes is_digit d bs parts.0 in
    let ended_is : ended bs ≡ 0 = sym (f_is ∙ ap (λ i. fraction_len (drop i (d ∷ bs))) same) ∙ none in
    digits_here d bs n v parts.0 parts.1 ended_is is value

pub decimal_at_front : (s : List ℕ) (m f : ℕ) → begins_nonzero s ≡ true → m ≡ prefix_len is_digit s → f ≡ fraction_len (drop m s) → 0 < f → IsToken s Decimal (m + f)
decimal_at_front [] m f h m_is f_is some = absurd cc
decimal_at_front (d ∷ bs) m f h m_is f_is some =
    let parts = nonzero_parts d bs h in
    let k : ℕ = prefix_len is_digit bs + ended bs in
    let same : m ≡ suc (prefix_len is_digit bs) = m_is ∙ prefix_len-yes is_digit d bs parts.0 in
    let ended_is : f ≡ ended bs = f_is ∙ ap (λ i. fraction_len (drop i (d ∷ bs))) same in
    let len : suc k ≡ m + f = omega arith in
    let within : k ≤ length bs = omega (arith, fraction_len-le (drop (prefix_len is_digit bs) bs), length-drop (prefix_len is_digit bs) bs, prefix_len-le-length is_digit bs) in
    let ends : ends_in_fraction (take k bs) ≡ true = end_here bs (omega arith) in
    let no_number : is_number (d ∷ take k bs) ≡ false = digits_number d (take k bs) parts.0 parts.1 ∙ and_left _ _ (and_right (is_digit d) _ (longer_fails is_digit bs k (omega arith) within)) in
    subst (IsToken (d ∷ bs) Decimal) len
    (is_found (d ∷ bs) Decimal (suc k) (omega arith) (omega arith) (digits_token d (take k bs) parts.0 parts.1 ∙ or_right (fits Ten 0 (d ∷ take k bs)) _ ends) (past d bs parts.0 parts.1)
    (decimal_kind (d ∷ take k bs) (name_needs d (take k bs) (digit_not_name d parts.0)) no_number (digits_decimal d (take k bs) parts.0 parts.1 ∙ ends)))
  where
    past : (d : ℕ) (bs : List ℕ) → is_digit d ≡ true → eqb d 48 ≡ false → (j : ℕ) → suc (prefix_len is_digit bs + ended bs) < j → j ≤ length (d ∷ bs) → is_token (take j (d ∷ bs)) ≡ false
    past d bs h e zero lt le = absurd (omega arith)
    past d bs h e (suc j) lt le =
        digits_token d (take j bs) h e
        ∙ or_from (fits Ten 0 (d ∷ take j bs)) (ends_in_fraction (take j bs)) (and_left _ _ (and_right (is_digit d) _ (longer_fails is_digit bs j (omega arith) (omega arith)))) (end_past bs j (omega arith) (λ some. omega arith))

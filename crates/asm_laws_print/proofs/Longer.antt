-- What a longer token says of a token at its front.
use Rattle.std.proofs.Common.{◌≡◌, ℕ, zero, suc, ◌+◌, ◌-◌, ◌<◌, Bool, true, false, ◌&&◌, ◌||◌, cond, not, eqb, List, [], ◌∷◌, ◌++◌, length, take, ◌⊎◌, inl, inr, refl, sym, ap, ◌∙◌, arith, append_assoc, length-append, length-take-le}
use Rattle.std.specs.Prelude.{◌==◌}
use Rattle.std.specs.List.{list_all}
use Rattle.std.proofs.lemmas.Bool.{and_parts, and_from, or_cases, or_left, or_right, both_ways, not-true, eqb-true, false_from_ne_true}
use Rattle.std.proofs.lemmas.Bool.Decides.{nat_tests}
use Rattle.std.proofs.lemmas.List.{take_at, take-take, take_all}
use Rattle.asm_lang_tokens.specs.Bytes.{is_ascii, is_digit, is_hexadecimal_digit, begins_name, is_name_byte, is_hexadecimal_mark, is_quote, is_gap_byte, may_be_quoted}
use Rattle.asm_lang_tokens.specs.Forms.{is_empty, is_some_of, is_name, is_plain, is_hexadecimal, is_number, is_fraction, ends_in_fraction, is_decimal, ends_quoted, is_quoted, is_punctuator, is_token}
use Rattle.asm_lang_tokens.proofs.Table.{of_punctuators, front_is_punctuator}
use Rattle.asm_lang_tokens.proofs.Classes.{word_is_quoted}
use Rattle.asm_lang.specs.Printing.{last_byte}

-- ---- bytes

pub digit_in_name : (b : ℕ) → is_digit b ≡ true → is_name_byte b ≡ true
digit_in_name b h = or_right (begins_name b) (is_digit b) h

hexadecimal_in_name : (b : ℕ) → is_hexadecimal_digit b ≡ true → is_name_byte b ≡ true
hexadecimal_in_name b h = grind (arith, nat_tests)

mark_in_name : (b : ℕ) → is_hexadecimal_mark b ≡ true → is_name_byte b ≡ true
mark_in_name b h = grind (arith, nat_tests)

abbrev pub is_decimal_byte : ℕ → Bool
is_decimal_byte b = is_digit b || (b == 46)

pub gap_not_in_name : (b : ℕ) → is_gap_byte b ≡ true → is_name_byte b ≡ false
gap_not_in_name b h = grind (arith, nat_tests)

gap_not_in_decimal : (b : ℕ) → is_gap_byte b ≡ true → is_decimal_byte b ≡ false
gap_not_in_decimal b h = grind (arith, nat_tests)

-- ---- lists of bytes that pass

all_too : (p q : ℕ → Bool) → ((b : ℕ) → p b ≡ true → q b ≡ true) → (bs : List ℕ) → list_all p bs ≡ true → list_all q bs ≡ true
all_too p q too [] h = refl
all_too p q too (b ∷ bs) h = let both = and_parts (p b) (list_all p bs) h in and_from (q b) (list_all q bs) (too b both.0) (all_too p q too bs both.1)

-- the last byte of the first list, and the byte after it
all_ends : (p : ℕ → Bool) (b : ℕ) (bs : List ℕ) (c : ℕ) (cs : List ℕ) → list_all p ((b ∷ bs) ++ c ∷ cs) ≡ true → (p (last_byte (b ∷ bs)) ≡ true) × (p c ≡ true)
all_ends p b [] c cs h = let both = and_parts (p b) (list_all p (c ∷ cs)) h in (both.0, (and_parts (p c) (list_all p cs) both.1).0)
all_ends p b (d ∷ bs) c cs h = all_ends p d bs c cs (and_parts (p b) (list_all p ((d ∷ bs) ++ c ∷ cs)) h).1

all_front : (p : ℕ → Bool) (xs ys : List ℕ) → list_all p (xs ++ ys) ≡ true → list_all p xs ≡ true
all_front p [] ys h = refl
all_front p (x ∷ xs) ys h = let both = and_parts (p x) (list_all p (xs ++ ys)) h in and_from (p x) (list_all p xs) both.0 (all_front p xs ys both.1)

-- ---- names and numbers

pub name_bytes : (bs : List ℕ) → is_name bs ≡ true → list_all is_name_byte bs ≡ true
name_bytes [] h = refl
name_bytes (b ∷ bs) h = let both = and_parts (begins_name b) (list_all is_name_byte bs) h in and_from (is_name_byte b) (list_all is_name_byte bs) (or_left (begins_name b) (is_digit b) both.0) both.1

some_bytes : (p q : ℕ → Bool) → ((b : ℕ) → p b ≡ true → q b ≡ true) → (bs : List ℕ) → is_some_of p bs ≡ true → list_all q bs ≡ true
some_bytes p q too [] h = refl
some_bytes p q too (b ∷ bs) h = all_too p q too (b ∷ bs) h

empty_is : (bs : List ℕ) → is_empty bs ≡ true → bs ≡ []
empty_is [] h = refl
empty_is (b ∷ bs) h = absurd cc

plain_bytes : (bs : List ℕ) → is_plain bs ≡ true → list_all is_name_byte bs ≡ true
plain_bytes [] h = refl
plain_bytes (b ∷ bs) h =
    let P : Bool → Type 0 = λ t. eqb b 48 ≡ t → cond t (is_empty bs) (is_some_of is_digit (b ∷ bs)) ≡ true → list_all is_name_byte (b ∷ bs) ≡ true in
    let both : P (eqb b 48) = elim (eqb b 48) as P [
      | true ↦ λ is k. zero_alone b bs (eqb-true b 48 is) (empty_is bs k)
      | false ↦ λ is k. some_bytes is_digit is_name_byte digit_in_name (b ∷ bs) k
    ] in
    both refl h
  where
    zero_alone : (b : ℕ) (bs : List ℕ) → b ≡ 48 → bs ≡ [] → list_all is_name_byte (b ∷ bs) ≡ true
    zero_alone b bs e f = rw (e, f) refl

hexadecimal_bytes : (bs : List ℕ) → is_hexadecimal bs ≡ true → list_all is_name_byte bs ≡ true
hexadecimal_bytes [] h = refl
hexadecimal_bytes (a ∷ []) h = absurd cc
hexadecimal_bytes (a ∷ b ∷ bs) h =
    let both = and_parts ((a == 48) && is_hexadecimal_mark b) (is_some_of is_hexadecimal_digit bs) h in
    let first = and_parts (a == 48) (is_hexadecimal_mark b) both.0 in
    and_from (is_name_byte a) (is_name_byte b && list_all is_name_byte bs) (ap is_name_byte (eqb-true a 48 first.0)) (and_from (is_name_byte b) (list_all is_name_byte bs) (mark_in_name b first.1) (some_bytes is_hexadecimal_digit is_name_byte hexadecimal_in_name bs both.1))

pub number_bytes : (bs : List ℕ) → is_number bs ≡ true → list_all is_name_byte bs ≡ true
number_bytes bs h =
    elim (or_cases (is_plain bs) (is_hexadecimal bs) (and_parts (is_plain bs || is_hexadecimal bs) _ h).0) [
      | inl k ↦ plain_bytes bs k
      | inr k ↦ hexadecimal_bytes bs k
    ]

-- ---- decimals

dot_alone : (b : ℕ) → eqb b 46 ≡ true → is_decimal_byte b ≡ true
dot_alone b h = or_right (is_digit b) (b == 46) h

digit_alone : (b : ℕ) → is_digit b ≡ true → is_decimal_byte b ≡ true
digit_alone b h = or_left (is_digit b) (b == 46) h

fraction_bytes : (bs : List ℕ) → is_fraction bs ≡ true → list_all is_decimal_byte bs ≡ true
fraction_bytes [] h = refl
fraction_bytes (b ∷ bs) h = let both = and_parts (b == 46) (list_all is_digit bs) h in and_from (is_decimal_byte b) (list_all is_decimal_byte bs) (dot_alone b both.0) (all_too is_digit is_decimal_byte digit_alone bs both.1)

ending_bytes : (bs : List ℕ) → ends_in_fraction bs ≡ true → list_all is_decimal_byte bs ≡ true
ending_bytes [] h = refl
ending_bytes (b ∷ bs) h =
    elim (or_cases (is_fraction (b ∷ bs)) (is_digit b && ends_in_fraction bs) h) [
      | inl k ↦ fraction_bytes (b ∷ bs) k
      | inr k ↦ (let both = and_parts (is_digit b) (ends_in_fraction bs) k in and_from (is_decimal_byte b) (list_all is_decimal_byte bs) (digit_alone b both.0) (ending_bytes bs both.1))
    ]

pub decimal_bytes : (bs : List ℕ) → is_decimal bs ≡ true → list_all is_decimal_byte bs ≡ true
decimal_bytes [] h = refl
decimal_bytes (b ∷ bs) h =
    let Q : Bool → Type 0 = λ t. eqb b 48 ≡ t → cond t (is_fraction bs) (is_digit b && ends_in_fraction bs) ≡ true → list_all is_decimal_byte (b ∷ bs) ≡ true in
    let inner : Q (eqb b 48) = elim (eqb b 48) as Q [
      | true ↦ λ is k. and_from (is_decimal_byte b) (list_all is_decimal_byte bs) (ap is_decimal_byte (eqb-true b 48 is)) (fraction_bytes bs k)
      | false ↦ λ is k. (let both = and_parts (is_digit b) (ends_in_fraction bs) k in and_from (is_decimal_byte b) (list_all is_decimal_byte bs) (digit_alone b both.0) (ending_bytes bs both.1))
    ] in
    let P : Bool → Type 0 = λ t. eqb b 46 ≡ t → cond t (is_some_of is_digit bs) (cond (eqb b 48) (is_fraction bs) (is_digit b && ends_in_fraction bs)) ≡ true → list_all is_decimal_byte (b ∷ bs) ≡ true in
    let both : P (eqb b 46) = elim (eqb b 46) as P [
      | true ↦ λ is k. and_from (is_decimal_byte b) (list_all is_decimal_byte bs) (dot_alone b is) (some_bytes is_digit is_decimal_byte digit_alone bs k)
      | false ↦ λ is. inner refl
    ] in
    both refl h

-- a front that isn't all digits
ending_front : (xs cs : List ℕ) → ends_in_fraction (xs ++ cs) ≡ true → (ends_in_fraction xs ≡ true) ⊎ (list_all is_digit xs ≡ true)
ending_front [] cs h = inr refl
ending_front (x ∷ xs) cs h =
    elim (or_cases (is_fraction (x ∷ (xs ++ cs))) (is_digit x && ends_in_fraction (xs ++ cs)) h) [
      | inl k ↦ (let both = and_parts (x == 46) (list_all is_digit (xs ++ cs)) k in inl (or_left _ _ (and_from (x == 46) (list_all is_digit xs) both.0 (all_front is_digit xs cs both.1))))
      | inr k ↦ (let both = and_parts (is_digit x) (ends_in_fraction (xs ++ cs)) k in
          elim (ending_front xs cs both.1) [
            | inl e ↦ inl (or_right (is_fraction (x ∷ xs)) _ (and_from (is_digit x) (ends_in_fraction xs) both.0 e))
            | inr a ↦ inr (and_from (is_digit x) (list_all is_digit xs) both.0 a)
          ])
    ]

decimal_front : (b x : ℕ) (xs cs : List ℕ) → is_decimal (b ∷ x ∷ (xs ++ cs)) ≡ true → (is_decimal (b ∷ x ∷ xs) ≡ true) ⊎ (list_all is_digit (b ∷ x ∷ xs) ≡ true)
decimal_front b x xs cs h =
    let Goal : Bool → Bool → Type 0 = λ s t. (cond s (is_some_of is_digit (x ∷ xs)) (cond t (is_fraction (x ∷ xs)) (is_digit b && ends_in_fraction (x ∷ xs))) ≡ true) ⊎ (list_all is_digit (b ∷ x ∷ xs) ≡ true) in
    let Q : Bool → Type 0 = λ t. cond t (is_fraction (x ∷ (xs ++ cs))) (is_digit b && ends_in_fraction (x ∷ (xs ++ cs))) ≡ true → Goal false t in
    let inner : Q (eqb b 48) = elim (eqb b 48) as Q [
      | true ↦ λ k. (let both = and_parts (x == 46) (list_all is_digit (xs ++ cs)) k in inl (and_from (x == 46) (list_all is_digit xs) both.0 (all_front is_digit xs cs both.1)))
      | false ↦ λ k. general b x xs cs (and_parts (is_digit b) (ends_in_fraction (x ∷ (xs ++ cs))) k).0 (and_parts (is_digit b) (ends_in_fraction (x ∷ (xs ++ cs))) k).1
    ] in
    let P : Bool → Type 0 = λ s. cond s (is_some_of is_digit (x ∷ (xs ++ cs))) (cond (eqb b 48) (is_fraction (x ∷ (xs ++ cs))) (is_digit b && ends_in_fraction (x ∷ (xs ++ cs)))) ≡ true → Goal s (eqb b 48) in
    let both : P (eqb b 46) = elim (eqb b 46) as P [
      | true ↦ λ k. (let both = and_parts (is_digit x) (list_all is_digit (xs ++ cs)) k in inl (and_from (is_digit x) (list_all is_digit xs) both.0 (all_front is_digit xs cs both.1)))
      | false ↦ inner
    ] in
    both h
  where
    general : (b x : ℕ) (xs cs : List ℕ) → is_digit b ≡ true → ends_in_fraction (x ∷ (xs ++ cs)) ≡ true → ((is_digit b && ends_in_fraction (x ∷ xs)) ≡ true) ⊎ (list_all is_digit (b ∷ x ∷ xs) ≡ true)
    general b x xs cs d k = elim (ending_front (x ∷ xs) cs k) [
      | inl e ↦ inl (and_from (is_digit b) (ends_in_fraction (x ∷ xs)) d e)
      | inr a ↦ inr (and_from (is_digit b) (list_all is_digit (x ∷ xs)) d a)
    ]

-- ---- quoted texts

quoted_ends : (q : ℕ) (bs : List ℕ) (c : ℕ) (cs : List ℕ) → ends_quoted q bs ≡ true → ends_quoted q (bs ++ c ∷ cs) ≡ true → ⊥
quoted_ends q [] c cs h k = absurd cc
quoted_ends q (b ∷ []) c cs h k =
    let first = and_parts (may_be_quoted q b) (ends_quoted q (c ∷ cs)) k in
    let other = and_parts (is_ascii b && not (b == q)) _ first.0 in
    both_ways (b == q) (not-true (b == q) (and_parts (is_ascii b) (not (b == q)) other.0).1) h
quoted_ends q (b ∷ d ∷ bs) c cs h k =
    quoted_ends q (d ∷ bs) c cs (and_parts (may_be_quoted q b) (ends_quoted q (d ∷ bs)) h).1 (and_parts (may_be_quoted q b) (ends_quoted q ((d ∷ bs) ++ c ∷ cs)) k).1

no_quoted : (b : ℕ) (bs : List ℕ) (c : ℕ) (cs : List ℕ) → is_token (b ∷ bs) ≡ true → is_quoted ((b ∷ bs) ++ c ∷ cs) ≡ true → ⊥
no_quoted b bs c cs is h =
    let long = and_parts (is_quote b) (ends_quoted b (bs ++ c ∷ cs)) h in
    let short = and_parts (is_quote b) (ends_quoted b bs) (sym (word_is_quoted b bs long.0) ∙ is) in
    quoted_ends b bs c cs short.1 long.1

-- ---- punctuators

fronts : (n : ℕ) (bs : List ℕ) → is_punctuator bs ≡ true → (k : ℕ) → 0 < k → k + n ≡ length bs → is_punctuator (take k bs) ≡ true
fronts zero bs h k some e = ap is_punctuator (take_all k bs (omega arith)) ∙ h
fronts (suc n) bs h k some e =
    let is = front_is_punctuator bs h (omega arith) in
    let len = length-take-le (length bs - 1) bs (omega arith) in
    ap is_punctuator (sym (take-take k (length bs - 1) bs (omega arith))) ∙ fronts n (take (length bs - 1) bs) is k some (omega (arith, len))

punctuator_front : (b : ℕ) (bs cs : List ℕ) → is_punctuator ((b ∷ bs) ++ cs) ≡ true → is_punctuator (b ∷ bs) ≡ true
punctuator_front b bs cs h =
    ap is_punctuator (sym (take_at (b ∷ bs) cs (length (b ∷ bs)) refl))
    ∙ fronts (length cs) ((b ∷ bs) ++ cs) h (length (b ∷ bs)) (omega arith) (sym (length-append (b ∷ bs) cs))

-- no punctuator has a gap in it
no_gaps : List ℕ → Bool
no_gaps bs = list_all (λ b. not (is_gap_byte b)) bs

punctuator_bytes : (bs : List ℕ) → is_punctuator bs ≡ true → list_all (λ b. not (is_gap_byte b)) bs ≡ true
unfolding no_gaps
punctuator_bytes bs h = of_punctuators no_gaps bs refl h

-- ---- the laws

-- the five forms
pub data Form (bs : List ℕ) : Type 0 where
  as_name : is_name bs ≡ true → Form bs
  as_number : is_number bs ≡ true → Form bs
  as_decimal : is_decimal bs ≡ true → Form bs
  as_quoted : is_quoted bs ≡ true → Form bs
  as_punctuator : is_punctuator bs ≡ true → Form bs

pub form_of : (bs : List ℕ) → is_token bs ≡ true → Form bs
form_of bs h =
    elim (or_cases (is_name bs || (is_number bs || is_decimal bs)) (is_quoted bs || is_punctuator bs) h) [
      | inl k ↦ elim (or_cases (is_name bs) (is_number bs || is_decimal bs) k) [
        | inl e ↦ as_name e
        | inr e ↦ elim (or_cases (is_number bs) (is_decimal bs) e) [ inl f ↦ as_number f | inr f ↦ as_decimal f ]
      ]
      | inr k ↦ elim (or_cases (is_quoted bs) (is_punctuator bs) k) [ inl e ↦ as_quoted e | inr e ↦ as_punctuator e ]
    ]

gap_inside : (b : ℕ) (bs : List ℕ) (c : ℕ) (cs : List ℕ) → is_token (b ∷ bs) ≡ true → is_gap_byte c ≡ true → Form ((b ∷ bs) ++ c ∷ cs) → ⊥
gap_inside b bs c cs is gap (as_name h) = both_ways (is_name_byte c) (gap_not_in_name c gap) (all_ends is_name_byte b bs c cs (name_bytes ((b ∷ bs) ++ c ∷ cs) h)).1
gap_inside b bs c cs is gap (as_number h) = both_ways (is_name_byte c) (gap_not_in_name c gap) (all_ends is_name_byte b bs c cs (number_bytes ((b ∷ bs) ++ c ∷ cs) h)).1
gap_inside b bs c cs is gap (as_decimal h) = both_ways (is_decimal_byte c) (gap_not_in_decimal c gap) (all_ends is_decimal_byte b bs c cs (decimal_bytes ((b ∷ bs) ++ c ∷ cs) h)).1
gap_inside b bs c cs is gap (as_quoted h) = no_quoted b bs c cs is h
gap_inside b bs c cs is gap (as_punctuator h) = both_ways (is_gap_byte c) (not-true (is_gap_byte c) (all_ends (λ d. not (is_gap_byte d)) b bs c cs (punctuator_bytes ((b ∷ bs) ++ c ∷ cs) h)).1) gap

-- no token holds a token and a gap after it
pub gap_ends : (w : List ℕ) (c : ℕ) (cs : List ℕ) → is_token w ≡ true → is_gap_byte c ≡ true → is_token (w ++ c ∷ cs) ≡ false
unfolding is_punctuator
gap_ends [] c cs is gap = absurd cc
gap_ends (b ∷ bs) c cs is gap = false_from_ne_true (is_token ((b ∷ bs) ++ c ∷ cs)) (λ h. gap_inside b bs c cs is gap (form_of ((b ∷ bs) ++ c ∷ cs) h))

-- what is left of a longer token
abbrev pub NextOr : List ℕ → ℕ → Type 0
NextOr w c = (is_token (w ++ c ∷ []) ≡ true) ⊎ ((is_name_byte (last_byte w) && is_name_byte c) ≡ true)

names_next : (b : ℕ) (bs : List ℕ) (c : ℕ) (cs : List ℕ) → list_all is_name_byte ((b ∷ bs) ++ c ∷ cs) ≡ true → NextOr (b ∷ bs) c
names_next b bs c cs h = let both = all_ends is_name_byte b bs c cs h in inr (and_from (is_name_byte (last_byte (b ∷ bs))) (is_name_byte c) both.0 both.1)

decimal_token : (bs : List ℕ) → is_decimal bs ≡ true → is_token bs ≡ true
decimal_token bs h = or_left _ _ (or_right (is_name bs) _ (or_right (is_number bs) (is_decimal bs) h))

decimal_next : (b : ℕ) (bs : List ℕ) (c : ℕ) (cs : List ℕ) → is_decimal ((b ∷ bs) ++ c ∷ cs) ≡ true → NextOr (b ∷ bs) c
decimal_next b [] c cs h = elim (decimal_front b c [] cs h) [
  | inl e ↦ inl (decimal_token (b ∷ c ∷ []) e)
  | inr e ↦ names_next b [] c [] (all_too is_digit is_name_byte digit_in_name (b ∷ c ∷ []) e)
]
decimal_next b (d ∷ ds) c cs h = elim (decimal_front b d (ds ++ c ∷ []) cs (ap is_decimal (ap (λ (r : List ℕ). b ∷ d ∷ r) (append_assoc ds (c ∷ []) cs)) ∙ h)) [
  | inl e ↦ inl (decimal_token (b ∷ d ∷ (ds ++ c ∷ [])) e)
  | inr e ↦ names_next b (d ∷ ds) c [] (all_too is_digit is_name_byte digit_in_name (b ∷ d ∷ (ds ++ c ∷ [])) e)
]

punctuator_next : (b : ℕ) (bs : List ℕ) (c : ℕ) (cs : List ℕ) → is_punctuator ((b ∷ bs) ++ c ∷ cs) ≡ true → NextOr (b ∷ bs) c
punctuator_next b bs c cs h =
    let whole : List ℕ = (b ∷ bs) ++ c ∷ [] in
    inl (or_right (is_name whole || (is_number whole || is_decimal whole)) _ (or_right (is_quoted whole) (is_punctuator whole) (punctuator_front b (bs ++ c ∷ []) cs (ap is_punctuator (append_assoc (b ∷ bs) (c ∷ []) cs) ∙ h))))

next_of : (b : ℕ) (bs : List ℕ) (c : ℕ) (cs : List ℕ) → is_token (b ∷ bs) ≡ true → Form ((b ∷ bs) ++ c ∷ cs) → NextOr (b ∷ bs) c
next_of b bs c cs is (as_name h) = names_next b bs c cs (name_bytes ((b ∷ bs) ++ c ∷ cs) h)
next_of b bs c cs is (as_number h) = names_next b bs c cs (number_bytes ((b ∷ bs) ++ c ∷ cs) h)
next_of b bs c cs is (as_decimal h) = decimal_next b bs c cs h
next_of b bs c cs is (as_quoted h) = absurd (no_quoted b bs c cs is h)
next_of b bs c cs is (as_punctuator h) = punctuator_next b bs c cs h

-- Where a longer token begins with a token, this one and the next byte are a token too, or that byte goes on a name.
pub one_more_byte : (w : List ℕ) (c : ℕ) (cs : List ℕ) → is_token w ≡ true → is_token (w ++ c ∷ cs) ≡ true → NextOr w c
unfolding is_punctuator
one_more_byte [] c cs is h = absurd cc
one_more_byte (b ∷ bs) c cs is h = next_of b bs c cs is (form_of ((b ∷ bs) ++ c ∷ cs) h)

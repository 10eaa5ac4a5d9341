-- Digits with single marks between them, byte by byte.
use Rattle.std.proofs.Common.{◌≡◌, ℕ, zero, suc, ◌+◌, ◌*◌, ◌^◌, ◌<◌, ◌≤◌, Bool, true, false, ◌&&◌, List, [], ◌∷◌, length, get_or, drop, Option, Some, None, refl, sym, ap, subst, ◌∙◌, arith, drop-cons}
use Rattle.std.specs.Prelude.{◌-◌, ◌==◌, if◌then◌else◌, option_map, codes, pos}
use Rattle.std.proofs.Math.Nat.{pow-le-pow_right, pow-succ'}
use Rattle.std.proofs.lemmas.Bool.Decides.{nat_tests}
use Rattle.std.proofs.lemmas.Bool.{eqb-true, false≢true}
use Rattle.wat_lang.specs.Tokens.{is_digit, digit_value, value_in}
use Rattle.wat_lang.specs.Numbers.{digits_in, begins_text, natural_of, number_of}
use Rattle.wat_tokens.specs.declared.numbers.Base.{Base}
use Rattle.wat_tokens.specs.declared.numbers.Base.TheVariants.{Ten, Sixteen}
use Rattle.wat_tokens.specs.Natural.{base_of, is_digit_of, natural_in, IsCapped, IsNatural}

first_is : {X : Type 0} (t : Bool) (x y : X) → t ≡ true → (if t then x else y) ≡ x
first_is true x y e = refl
first_is false x y e = absurd (false≢true e)

second_is : {X : Type 0} (t : Bool) (x y : X) → t ≡ false → (if t then x else y) ≡ y
second_is true x y e = absurd (false≢true (sym e))
second_is false x y e = refl

-- the digits that follow, behind a digit or where one has to stand
abbrev pub digits_after : (test : ℕ → Bool) (after : Bool) → List ℕ → Option (List ℕ)
digits_after test false bs = digits_in test bs
digits_after test true [] = Some []
digits_after test true (c ∷ cs) = if c == 95 then digits_in test cs else digits_in test (c ∷ cs)

abbrev onto : ℕ → Option (List ℕ) → Option (List ℕ)
onto d o = option_map (λ ds. d ∷ ds) o

first_eq : (test : ℕ → Bool) (d : ℕ) (ds : List ℕ) → digits_in test (d ∷ ds) ≡ (if test d then onto d (digits_after test true ds) else None)
first_eq test d [] = refl
first_eq test d (c ∷ cs) = refl

no_mark : (base : Base) (d : ℕ) → is_digit_of base d ≡ true → (d == 95) ≡ false
no_mark base d is = by (d == 95) refl
  where
    none : (b : Base) → is_digit_of b 95 ≡ false
    none Ten = refl
    none Sixteen = refl

    by : (t : Bool) → (d == 95) ≡ t → t ≡ false
    by true e = absurd (false≢true (sym (ap (is_digit_of base) (eqb-true d 95 e) ∙ none base) ∙ is))
    by false e = refl

digit_eq : (base : Base) (d : ℕ) (ds : List ℕ) (after : Bool) → is_digit_of base d ≡ true → digits_after (is_digit_of base) after (d ∷ ds) ≡ onto d (digits_after (is_digit_of base) true ds)
digit_eq base d ds false is = first_eq (is_digit_of base) d ds ∙ first_is (is_digit_of base d) _ None is
digit_eq base d ds true is =
    second_is (d == 95) (digits_in (is_digit_of base) ds) (digits_in (is_digit_of base) (d ∷ ds)) (no_mark base d is)
    ∙ (first_eq (is_digit_of base) d ds ∙ first_is (is_digit_of base d) _ None is)

bad_eq : (base : Base) (d : ℕ) (ds : List ℕ) (after : Bool) → is_digit_of base d ≡ false → (after && (d == 95)) ≡ false → digits_after (is_digit_of base) after (d ∷ ds) ≡ None
bad_eq base d ds false other mark = first_eq (is_digit_of base) d ds ∙ second_is (is_digit_of base d) _ None other
bad_eq base d ds true other mark =
    second_is (d == 95) (digits_in (is_digit_of base) ds) (digits_in (is_digit_of base) (d ∷ ds)) mark
    ∙ (first_eq (is_digit_of base) d ds ∙ second_is (is_digit_of base d) _ None other)

onto_value : (b n d : ℕ) (o : Option (List ℕ)) → option_map (value_in b n) (onto d o) ≡ option_map (value_in b (b * n + digit_value d)) o
onto_value b n d None = refl
onto_value b n d (Some ds) = refl

one_front : (s : List ℕ) (n : ℕ) → n < length s → drop n s ≡ get_or s n 0 ∷ drop (n + 1) s
one_front s n lt = let next : suc n ≡ n + 1 = omega arith in drop-cons s n 0 lt ∙ ap (λ j. get_or s n 0 ∷ drop j s) next

none_left : (s : List ℕ) (n : ℕ) → length s ≤ n → drop n s ≡ []
none_left [] zero le = refl
none_left [] (suc n) le = refl
none_left (b ∷ s) zero le = absurd (omega arith)
none_left (b ∷ s) (suc n) le = none_left s n (omega arith)

-- ---- turns of the loop

-- so many bytes write n, which is v as far as it is told
pub record Seen (base : Base) (s : List ℕ) (i v : ℕ) (after : Bool) : Type 0 where
  pub n : ℕ
  pub is : natural_in base s ≡ option_map (value_in (base_of base) n) (digits_after (is_digit_of base) after (drop i s))
  pub capped : IsCapped v n

pub start : (base : Base) (s : List ℕ) → Seen base s 0 0 false
start base s = record { n = 0; is = refl; capped = record { near = λ le. refl; far = λ lt. absurd (omega (arith, lt)) } }

pub digit_turn : (base : Base) (s : List ℕ) (i v w : ℕ) (after : Bool) → Seen base s i v after → i < length s → is_digit_of base (get_or s i 0) ≡ true
    → ((n : ℕ) → IsCapped v n → IsCapped w (base_of base * n + digit_value (get_or s i 0))) → Seen base s (i + 1) w true
digit_turn base s i v w after p lt is more = record {
  n = base_of base * p.n + digit_value (get_or s i 0);
  is = p.is ∙ (ap (λ bs. option_map (value_in (base_of base) p.n) (digits_after (is_digit_of base) after bs)) (one_front s i lt)
      ∙ (ap (λ o. option_map (value_in (base_of base) p.n) o) (digit_eq base (get_or s i 0) (drop (i + 1) s) after is)
      ∙ onto_value (base_of base) p.n (get_or s i 0) (digits_after (is_digit_of base) true (drop (i + 1) s))));
  capped = more p.n p.capped;
}

pub mark_turn : (base : Base) (s : List ℕ) (i v : ℕ) (after : Bool) → Seen base s i v after → i < length s → (after && (get_or s i 0 == 95)) ≡ true → Seen base s (i + 1) v false
mark_turn base s i v false p lt is = absurd (false≢true is)
mark_turn base s i v true p lt is = record {
  n = p.n;
  is = p.is ∙ ap (λ o. option_map (value_in (base_of base) p.n) o) (ap (digits_after (is_digit_of base) true) (one_front s i lt)
      ∙ first_is (get_or s i 0 == 95) (digits_in (is_digit_of base) (drop (i + 1) s)) _ is);
  capped = p.capped;
}

pub bad_turn : (base : Base) (s : List ℕ) (i v : ℕ) (after : Bool) → Seen base s i v after → i < length s → is_digit_of base (get_or s i 0) ≡ false → (after && (get_or s i 0 == 95)) ≡ false
    → natural_in base s ≡ None
bad_turn base s i v after p lt other mark =
    p.is ∙ ap (λ o. option_map (value_in (base_of base) p.n) o) (ap (digits_after (is_digit_of base) after) (one_front s i lt) ∙ bad_eq base (get_or s i 0) (drop (i + 1) s) after other mark)

pub end_some : (base : Base) (s : List ℕ) (i v : ℕ) → Seen base s i v true → length s ≤ i → IsNatural (Some v) (natural_in base s)
end_some base s i v p le =
    (p.n, p.is ∙ ap (λ bs. option_map (value_in (base_of base) p.n) (digits_after (is_digit_of base) true bs)) (none_left s i le), p.capped)

pub end_none : (base : Base) (s : List ℕ) (i v : ℕ) → Seen base s i v false → length s ≤ i → natural_in base s ≡ None
end_none base s i v p le = p.is ∙ ap (λ bs. option_map (value_in (base_of base) p.n) (digits_in (is_digit_of base) bs)) (none_left s i le)

pub ruleset turns = (digit_turn, mark_turn, bad_turn, end_some, end_none)

-- ---- one more digit

grows : (base : Base) (n d : ℕ) → n ≤ base_of base * n + d
grows Ten n d = omega arith
grows Sixteen n d = omega arith

pub far_more : (base : Base) (v n d : ℕ) → 2 ^ 64 < v → IsCapped v n → IsCapped v (base_of base * n + d)
far_more base v n d lt c = record { near = λ le. absurd (omega (arith, lt, le)); far = λ is. (let more = grows base n d in let far = c.far is in omega (arith, more, far)) }

pub near_more : (base : Base) (v w n d : ℕ) → v ≤ 2 ^ 64 → w ≡ base_of base * v + d → IsCapped v n → IsCapped w (base_of base * n + d)
near_more base v w n d le is c =
    let same : w ≡ base_of base * n + d = is ∙ ap (λ m. base_of base * m + d) (c.near le) in
    record { near = λ h. same; far = λ lt. subst (λ m. 2 ^ 64 < m) same lt }

-- ---- a few decimal digits

pow_next : (n : ℕ) → 10 ^ (n + 1) ≡ 10 * 10 ^ n
pow_next n = ap (λ k. 10 ^ k) (let e : n + 1 ≡ suc n = omega arith in e) ∙ pow-succ' 10 n

pub digit_is : (d : ℕ) → is_digit d ≡ true → (48 ≤ d) × (d ≤ 57) × (digit_value d ≡ d - 48)
digit_is d e = grind (arith, nat_tests)

pub bounded : (v n : ℕ) → v < 10 ^ n → n ≤ 18 → v < 10 ^ 18
bounded v n lt le = let grows = pow-le-pow_right {n = 10} (omega arith) le in omega (arith, lt, grows)

pub room_for_one : (v n : ℕ) → v < 10 ^ n → n < 18 → v ≤ 1000000000000000000
room_for_one v n lt less = let all = bounded v n lt (omega (arith, less)) in omega (arith, all)

pub one_more_below : (v w d n : ℕ) → v < 10 ^ n → is_digit d ≡ true → w ≡ 10 * v + digit_value d → w < 10 ^ (n + 1)
one_more_below v w d n lt is e =
    let digit = digit_is d is in
    let next : 10 ^ (n + 1) ≡ 10 * 10 ^ n = pow_next n in
    omega (arith, lt, digit.0, digit.1, digit.2, e, next)

-- ---- decimal digits alone write the number with no sign

no_such : (b n : ℕ) → is_digit b ≡ true → is_digit n ≡ false → (b == n) ≡ false
no_such b n is other = by (b == n) refl
  where
    by : (t : Bool) → (b == n) ≡ t → t ≡ false
    by true e = absurd (false≢true (sym (ap is_digit (eqb-true b n e) ∙ other) ∙ is))
    by false e = refl

first_digit : (d : ℕ) (ds : List ℕ) (v : ℕ) → natural_in Ten (d ∷ ds) ≡ Some v → is_digit d ≡ true
first_digit d ds v e = by (is_digit d) refl
  where
    by : (t : Bool) → is_digit d ≡ t → t ≡ true
    by true is = refl
    by false is = let none : None ≡ Some v = sym (ap (λ o. option_map (value_in 10 0) o) (first_eq is_digit d ds ∙ second_is (is_digit d) _ None is)) ∙ e in absurd cc

second_no_x : (d c : ℕ) (cs : List ℕ) (v : ℕ) → natural_in Ten (d ∷ c ∷ cs) ≡ Some v → (c == 120) ≡ false
second_no_x d c cs v e = by (c == 120) refl
  where
    is : is_digit d ≡ true
    is = first_digit d (c ∷ cs) v e

    none_after : digits_after is_digit true (120 ∷ cs) ≡ None
    none_after = first_eq is_digit 120 cs

    by : (t : Bool) → (c == 120) ≡ t → t ≡ false
    by true x =
        let after : digits_after is_digit true (c ∷ cs) ≡ None = ap (λ n. digits_after is_digit true (n ∷ cs)) (eqb-true c 120 x) ∙ none_after in
        let whole : digits_in is_digit (d ∷ c ∷ cs) ≡ onto d (digits_after is_digit true (c ∷ cs)) = first_eq is_digit d (c ∷ cs) ∙ first_is (is_digit d) _ None is in
        let none : None ≡ Some v = sym (ap (λ o. option_map (value_in 10 0) o) (whole ∙ ap (onto d) after)) ∙ e in
        absurd cc
    by false x = refl

no_prefix : (bs : List ℕ) (v : ℕ) → natural_in Ten bs ≡ Some v → begins_text (codes "0x") bs ≡ false
no_prefix [] v e = refl
no_prefix (d ∷ []) v e = elim (d == 48) as (λ t. (t && false) ≡ false) [ true ↦ refl | false ↦ refl ]
no_prefix (d ∷ c ∷ cs) v e = rw (second_no_x d c cs v e) (elim (d == 48) as (λ t. (t && (false && true)) ≡ false) [ true ↦ refl | false ↦ refl ])

natural_is : (bs : List ℕ) (v : ℕ) → natural_in Ten bs ≡ Some v → natural_of bs ≡ Some v
natural_is bs v e = second_is (begins_text (codes "0x") bs) _ _ (no_prefix bs v e) ∙ e

pub number_is : (bs : List ℕ) (v : ℕ) → natural_in Ten bs ≡ Some v → number_of bs ≡ Some (pos v)
number_is [] v e = absurd cc
number_is (b ∷ bs) v e =
    let is = first_digit b bs v e in
    rw (no_such b 45 is refl, no_such b 43 is refl) (ap (λ o. option_map pos o) (natural_is (b ∷ bs) v e))

pub exactly : (v : ℕ) (o : Option ℕ) → v < 10 ^ 18 → IsNatural (Some v) o → o ≡ Some v
exactly v o lt p = p.1 ∙ ap (λ (n : ℕ). let x : Option ℕ = Some n in x) (sym (p.2.near (omega (arith, lt))))

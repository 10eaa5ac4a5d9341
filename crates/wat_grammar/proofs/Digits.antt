-- Digits, the first of them taken off.
use Rattle.std.proofs.Common.{◌≡◌, ℕ, ◌≤◌, ◌<◌, Bool, true, false, List, [], ◌∷◌, length, take, drop, slice_index_or, Option, Some, None, is_some, option_map, bytes_eq, codes, pos, ◌&&◌, ◌||◌, if◌then◌else◌, ◌==◌, refl, sym, ap, ◌∙◌, arith}
use Rattle.wat_lang.specs.Tokens.{is_digit, is_hexadecimal_digit, value_in}
use Rattle.wat_lang.specs.Numbers.{digits_in, natural_of, number_of, minus}
use Rattle.std.proofs.lemmas.Bool.{and_parts, ne_eqb}
use Rattle.wat_grammar.specs.Views.{all_digits, are_plain_digits, behind_underscore, digit_test, is_sign}

some_of : {X Y : Type 0} (f : X → Y) (x : Option X) → is_some (option_map f x) ≡ is_some x
some_of f None = refl
some_of f (Some x) = refl

same_if : {X : Type 0} (t : Bool) (f : List ℕ → X) (xs ys : List ℕ) → (if t then f xs else f ys) ≡ f (if t then xs else ys)
same_if true f xs ys = refl
same_if false f xs ys = refl

pub digits_left : (test : ℕ → Bool) (ds : List ℕ) (e : ℕ) → 2 ≤ length ds → test (slice_index_or ds 0 e) ≡ true
    → is_some (digits_in test (behind_underscore (drop 1 ds))) ≡ is_some (digits_in test ds)
digits_left test [] e l h = absurd (omega (arith, l))
digits_left test (d ∷ []) e l h = absurd (omega (arith, l))
digits_left test (d ∷ c ∷ cs) e l h =
    let step : (if c == 95 then digits_in test cs else digits_in test (c ∷ cs)) ≡ digits_in test (behind_underscore (c ∷ cs)) = same_if (c == 95) (digits_in test) cs (c ∷ cs) in
    sym (ap (λ t. is_some (if t then option_map (λ (xs : List ℕ). d ∷ xs) (if c == 95 then digits_in test cs else digits_in test (c ∷ cs)) else None)) h
    ∙ some_of (λ (xs : List ℕ). d ∷ xs) (if c == 95 then digits_in test cs else digits_in test (c ∷ cs)) ∙ ap is_some step)

pub no_digits : (test : ℕ → Bool) (ds : List ℕ) (e : ℕ) → 2 ≤ length ds → test (slice_index_or ds 0 e) ≡ false → is_some (digits_in test ds) ≡ false
no_digits test [] e l h = absurd (omega (arith, l))
no_digits test (d ∷ []) e l h = absurd (omega (arith, l))
no_digits test (d ∷ c ∷ cs) e l h = ap (λ t. is_some (if t then option_map (λ (xs : List ℕ). d ∷ xs) (if c == 95 then digits_in test cs else digits_in test (c ∷ cs)) else None)) h

pub last_digit : (test : ℕ → Bool) (ds : List ℕ) (e : ℕ) → length ds ≡ 1 → is_some (digits_in test ds) ≡ test (slice_index_or ds 0 e)
last_digit test [] e l = absurd (omega (arith, l))
last_digit test (d ∷ c ∷ cs) e l = absurd (omega (arith, l))
last_digit test (d ∷ []) e l = by (test d)
  where
    by : (t : Bool) → is_some (if t then Some (d ∷ []) else None) ≡ t
    by true = refl
    by false = refl

pub shorter : (ds : List ℕ) → 2 ≤ length ds → length (behind_underscore (drop 1 ds)) < length ds
shorter [] l = absurd (omega (arith, l))
shorter (d ∷ []) l = absurd (omega (arith, l))
shorter (d ∷ c ∷ cs) l = by (c == 95)
  where
    by : (t : Bool) → length (if t then cs else c ∷ cs) < length (d ∷ c ∷ cs)
    by true = omega arith
    by false = omega arith

-- ---- numbers

pub hexadecimal_number : (bs : List ℕ) → bytes_eq (take 2 bs) (codes "0x") ≡ true → is_some (digits_in (digit_test true) (drop 2 bs)) ≡ is_some (natural_of bs)
hexadecimal_number bs h = sym (ap (λ t. is_some (if t then option_map (value_in 16 0) (digits_in is_hexadecimal_digit (drop 2 bs)) else option_map (value_in 10 0) (digits_in is_digit bs))) h
    ∙ some_of (value_in 16 0) (digits_in is_hexadecimal_digit (drop 2 bs)))

pub decimal_number : (bs : List ℕ) → bytes_eq (take 2 bs) (codes "0x") ≡ false → is_some (digits_in (digit_test false) bs) ≡ is_some (natural_of bs)
decimal_number bs h = sym (ap (λ t. is_some (if t then option_map (value_in 16 0) (digits_in is_hexadecimal_digit (drop 2 bs)) else option_map (value_in 10 0) (digits_in is_digit bs))) h
    ∙ some_of (value_in 10 0) (digits_in is_digit bs))

signed_by : (t u : Bool) (x y : Option ℕ) → t || u ≡ true → is_some x ≡ is_some (if t then option_map minus x else (if u then option_map pos x else option_map pos y))
signed_by true u x y h = sym (some_of minus x)
signed_by false true x y h = sym (some_of pos x)
signed_by false false x y h = absurd cc

pub signed_number : (bs : List ℕ) (d : ℕ) → 1 ≤ length bs → is_sign (slice_index_or bs 0 d) ≡ true → is_some (natural_of (drop 1 bs)) ≡ is_some (number_of bs)
signed_number [] d l h = absurd (omega (arith, l))
signed_number (b ∷ bs) d l h = signed_by (b == 45) (b == 43) (natural_of bs) (natural_of (b ∷ bs)) h

unsigned_by : (t u : Bool) (x y : Option ℕ) → t || u ≡ false → is_some y ≡ is_some (if t then option_map minus x else (if u then option_map pos x else option_map pos y))
unsigned_by true u x y h = absurd cc
unsigned_by false true x y h = absurd cc
unsigned_by false false x y h = sym (some_of pos y)

pub unsigned_number : (bs : List ℕ) (d : ℕ) → 1 ≤ length bs → is_sign (slice_index_or bs 0 d) ≡ false → is_some (natural_of bs) ≡ is_some (number_of bs)
unsigned_number [] d l h = absurd (omega (arith, l))
unsigned_number (b ∷ bs) d l h = unsigned_by (b == 45) (b == 43) (natural_of bs) (natural_of (b ∷ bs)) h

-- ---- decimal digits and no more, as most numbers are

not_that : (b k : ℕ) → is_digit k ≡ false → is_digit b ≡ true → (b == k) ≡ false
not_that b k h d = ne_eqb b k (λ e. let f : false ≡ true = sym h ∙ sym (ap is_digit e) ∙ d in cc)

digits_alone : (b : ℕ) (bs : List ℕ) → is_digit b ≡ true → all_digits bs ≡ true → is_some (digits_in is_digit (b ∷ bs)) ≡ true
digits_alone b [] d h = ap (λ t. is_some (if t then Some (b ∷ []) else None)) d
digits_alone b (c ∷ cs) d h =
    let parts = and_parts (is_digit c) (all_digits cs) h in
    ap (λ t. is_some (if t then option_map (λ (xs : List ℕ). b ∷ xs) (if c == 95 then digits_in is_digit cs else digits_in is_digit (c ∷ cs)) else None)) d
    ∙ some_of (λ (xs : List ℕ). b ∷ xs) (if c == 95 then digits_in is_digit cs else digits_in is_digit (c ∷ cs))
    ∙ ap (λ t. is_some (if t then digits_in is_digit cs else digits_in is_digit (c ∷ cs))) (not_that c 95 refl parts.0) ∙ digits_alone c cs parts.0 parts.1

no_prefix : (b : ℕ) (bs : List ℕ) → all_digits bs ≡ true → bytes_eq (take 2 (b ∷ bs)) (codes "0x") ≡ false
no_prefix b [] h = none (b == 48)
  where
    none : (t : Bool) → t && false ≡ false
    none true = refl
    none false = refl
no_prefix b (c ∷ cs) h = none (b == 48) (c == 120) (not_that c 120 refl (and_parts (is_digit c) (all_digits cs) h).0)
  where
    none : (t u : Bool) → u ≡ false → t && (u && true) ≡ false
    none true u e = ap (λ v. v && true) e
    none false u e = refl

pub plain_number : (bs : List ℕ) → are_plain_digits bs ≡ true → is_some (number_of bs) ≡ true
plain_number [] h = absurd cc
plain_number (b ∷ bs) h =
    let parts = and_parts (is_digit b) (all_digits bs) h in
    sym (unsigned_number (b ∷ bs) 0 (omega arith) (ap (λ t. t || (b == 43)) (not_that b 45 refl parts.0) ∙ not_that b 43 refl parts.0))
    ∙ sym (decimal_number (b ∷ bs) (no_prefix b bs parts.1)) ∙ digits_alone b bs parts.0 parts.1

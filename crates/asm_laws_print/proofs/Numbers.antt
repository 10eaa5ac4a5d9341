-- The decimal text of a number below 2^64 is a token, a number of that value.
use Rattle.std.proofs.Common.{◌≡◌, ℕ, zero, suc, ◌+◌, ◌*◌, ◌-◌, ◌^◌, ◌<◌, true, false, List, [], ◌∷◌, length, get_or, refl, ap, ◌∙◌, arith}
use Rattle.std.specs.Int.{IsInRange}
use Rattle.std.specs.List.{list_all}
use Rattle.std.specs.Fmt.{decimal}
use Rattle.std.proofs.lemmas.Bool.{lt-ltb, lt-leb, le-leb, leb-true, ne_eqb}
use Rattle.std.proofs.lemmas.Fmt.{digits_decimal, digits_value-decimal, decimal_nonempty, first_decimal, decimal_digit}
use Rattle.std.proofs.lemmas.Str.Parse.{IsDigitsTest, FoldsDigits, IsNumeralModel, numerals_by_fold}
use Rattle.asm_lang_tokens.specs.Bytes.{is_digit, digit_value, is_hexadecimal_mark}
use Rattle.asm_lang_tokens.specs.Forms.{is_name, is_plain, value_in, number_value, kind_of, number}
use Rattle.asm_lang.proofs.Tokens.{and_both, and_left, and_right}

digit_range : (c : ℕ) → is_digit c ≡ true → IsInRange 48 57 c
digit_range c e = (leb-true 48 c (and_left _ _ e), leb-true c 57 (and_right _ _ e))

range_digit : (c : ℕ) → IsInRange 48 57 c → is_digit c ≡ true
range_digit c k = and_both _ _ (le-leb 48 c k.0) (le-leb c 57 k.1)

tells : IsDigitsTest (λ ds. list_all is_digit ds ≡ true)
tells = record {
  empty = refl;
  parts = λ c cs e. (digit_range c (and_left _ _ e), and_right _ _ e);
  more = λ c cs k e. and_both _ _ (range_digit c k) e;
}

digit_is : (c : ℕ) → IsInRange 48 57 c → digit_value c ≡ c - 48
digit_is c k =
    let h : c < 97 = omega (arith, k.1) in
    let g : c < 65 = omega (arith, k.1) in
    rw (lt-leb 97 c h, lt-leb 65 c g) refl

folds : FoldsDigits (value_in 10)
folds = record {
  empty = λ n. refl;
  more = λ n c cs k. ap (λ (v : ℕ). value_in 10 v cs) (ap (λ (v : ℕ). 10 * n + v) (digit_is c k) ∙ omega arith);
}

own : IsNumeralModel (λ ds. list_all is_digit ds ≡ true) (value_in 10 0)
own = numerals_by_fold (λ ds. list_all is_digit ds ≡ true) tells (value_in 10) folds

no_mark : (b : ℕ) → IsInRange 48 57 b → is_hexadecimal_mark b ≡ false
no_mark b k = rw (ne_eqb b 120 (λ e. omega (arith, k.1)), ne_eqb b 88 (λ e. omega (arith, k.1))) refl

after_zero : (v : ℕ) → v ≡ 10 * 0 + v
after_zero v = omega arith

number_is : (ds : List ℕ) → 0 < length ds → list_all is_digit ds ≡ true → number_value ds ≡ value_in 10 0 ds
number_is [] some all = absurd (omega (arith, some))
number_is (a ∷ []) some all = after_zero (digit_value a)
number_is (a ∷ b ∷ ds) some all = rw (no_mark b (digit_range b (and_left (is_digit b) (list_all is_digit ds) (and_right (is_digit a) (list_all is_digit (b ∷ ds)) all)))) refl

no_name : (ds : List ℕ) → list_all is_digit ds ≡ true → is_name ds ≡ false
no_name [] all = refl
no_name (d ∷ ds) all =
    let k = digit_range d (and_left (is_digit d) (list_all is_digit ds) all) in
    let h : d < 97 = omega (arith, k.1) in
    let g : d < 65 = omega (arith, k.1) in
    rw (lt-leb 97 d h, lt-leb 65 d g, ne_eqb d 95 (λ e. omega (arith, k.1)), ne_eqb d 36 (λ e. omega (arith, k.0))) refl

plain : (ds : List ℕ) → list_all is_digit ds ≡ true → 48 < get_or ds 0 0 → is_plain ds ≡ true
plain [] all some = absurd (omega (arith, some))
plain (d ∷ ds) all some = rw (ne_eqb d 48 (λ e. omega (arith, some))) all

decimal_plain : (n : ℕ) → n < 2 ^ 64 → is_plain (decimal n) ≡ true
decimal_plain zero small = ap is_plain (decimal_digit 0 (omega arith))
decimal_plain (suc n) small = plain (decimal (suc n)) (digits_decimal own (suc n) small) (first_decimal (suc n) (omega arith) small)

kind_is : (ds : List ℕ) (n : ℕ) → is_name ds ≡ false → is_plain ds ≡ true → number_value ds ≡ n → n < 2 ^ 64 → kind_of ds ≡ number n
kind_is ds n no_name plain value small = rw (no_name, plain, value, lt-ltb n (2 ^ 64) small) refl

pub decimal_kind : (n : ℕ) → n < 2 ^ 64 → kind_of (decimal n) ≡ number n
decimal_kind n small =
    let all = digits_decimal own n small in
    kind_is (decimal n) n (no_name (decimal n) all) (decimal_plain n small) (number_is (decimal n) (decimal_nonempty n small) all ∙ digits_value-decimal own n small) small

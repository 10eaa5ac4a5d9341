-- Numbers, as they are written, are atoms, and are read again.
use Rattle.std.proofs.Common.{◌≡◌, ℕ, suc, ◌+◌, ◌*◌, ◌-◌, ◌^◌, ◌<◌, ◌≤◌, Bool, true, false, ◌||◌, List, [], ◌∷◌, ◌++◌, ℤ, pos, negsuc, ◌-ℤ◌, length, refl, sym, ap, subst, ◌∙◌, arith}
use Rattle.std.specs.Int.{IsInRange}
use Rattle.std.specs.List.{list_all}
use Rattle.std.specs.Prelude.{nat_lt, if◌then◌else◌}
use Rattle.std.specs.Fmt.{decimal, signed_decimal}
use Rattle.std.proofs.lemmas.Bool.{false≢true, ltb-false, le-leb, lt-leb, leb-true, and_parts, and_from}
use Rattle.std.proofs.lemmas.Fmt.{digits_decimal, decimal_nonempty}
use Rattle.std.proofs.lemmas.Int.{ints}
use Rattle.std.proofs.lemmas.Str.Parse.{IsDigitsTest, FoldsDigits, IsNumeralModel, numerals_by_fold}
use Rattle.sem_words.specs.Words.{signed_of}
use Rattle.wat_lang.specs.Tokens.{is_letter, is_digit, digit_value, value_in, is_atom_byte}
use Rattle.wat_laws_print.specs.Pieces.{is_atom}

digit_range : (c : ℕ) → is_digit c ≡ true → IsInRange 48 57 c
digit_range c e = let parts = and_parts _ _ e in (leb-true 48 c parts.0, leb-true c 57 parts.1)

range_digit : (c : ℕ) → IsInRange 48 57 c → is_digit c ≡ true
range_digit c k = and_from _ _ (le-leb 48 c k.0) (le-leb c 57 k.1)

tells : IsDigitsTest (λ ds. list_all is_digit ds ≡ true)
tells = record {
  empty = refl;
  parts = λ c cs e. (let both = and_parts (is_digit c) (list_all is_digit cs) e in (digit_range c both.0, both.1));
  more = λ c cs k e. and_from (is_digit c) (list_all is_digit cs) (range_digit c k) e;
}

digit_is : (c : ℕ) → IsInRange 48 57 c → digit_value c ≡ c - 48
digit_is c k =
    let h : c < 97 = omega (arith, k.1) in
    let g : c < 65 = omega (arith, k.1) in
    rw (lt-leb 97 c h, lt-leb 65 c g) refl

folds : FoldsDigits (value_in 10)
folds = record {
  empty = λ n. refl;
  more = λ n c cs k. ap (λ (v : ℕ). value_in 10 v cs) (ap (λ (v : ℕ). 10 * n + v) (digit_is c k) ∙ omega arith);
}

pub own : IsNumeralModel (λ ds. list_all is_digit ds ≡ true) (value_in 10 0)
own = numerals_by_fold (λ ds. list_all is_digit ds ≡ true) tells (value_in 10) folds

-- ---- atoms

second_of_three : (a b c : Bool) → b ≡ true → ((a || b) || c) ≡ true
second_of_three true b c e = refl
second_of_three false true c e = refl
second_of_three false false c e = absurd (false≢true e)

digit_atom : (d : ℕ) → is_digit d ≡ true → is_atom_byte d ≡ true
digit_atom d e = second_of_three (is_letter d) (is_digit d) _ e

digits_atom : (ds : List ℕ) → list_all is_digit ds ≡ true → list_all is_atom_byte ds ≡ true
digits_atom [] all = refl
digits_atom (d ∷ ds) all = let parts = and_parts (is_digit d) (list_all is_digit ds) all in and_from (is_atom_byte d) (list_all is_atom_byte ds) (digit_atom d parts.0) (digits_atom ds parts.1)

some_atom : (ds : List ℕ) → 0 < length ds → list_all is_atom_byte ds ≡ true → is_atom ds ≡ true
some_atom [] some all = absurd (omega (arith, some))
some_atom (d ∷ ds) some all = all

pub digits_all : (n : ℕ) → n < 2 ^ 64 → list_all is_atom_byte (decimal n) ≡ true
digits_all n small = digits_atom (decimal n) (digits_decimal own n small)

pub decimal_atom : (n : ℕ) → n < 2 ^ 64 → is_atom (decimal n) ≡ true
decimal_atom n small = some_atom (decimal n) (decimal_nonempty n small) (digits_all n small)

-- a number behind a key
pub all_joined : (xs ys : List ℕ) → list_all is_atom_byte xs ≡ true → list_all is_atom_byte ys ≡ true → list_all is_atom_byte (xs ++ ys) ≡ true
all_joined [] ys all more = more
all_joined (x ∷ xs) ys all more =
    let parts = and_parts (is_atom_byte x) (list_all is_atom_byte xs) all in
    and_from (is_atom_byte x) (list_all is_atom_byte (xs ++ ys)) parts.0 (all_joined xs ys parts.1 more)

-- ---- signed numbers

abbrev IsSmall : ℤ → Type 0
IsSmall (pos n) = n < 2 ^ 64
IsSmall (negsuc n) = n + 1 < 2 ^ 64

small_atom : (z : ℤ) → IsSmall z → is_atom (signed_decimal z) ≡ true
small_atom (pos n) s = decimal_atom n s
small_atom (negsuc n) s = let more : suc n < 2 ^ 64 = omega (arith, s) in digits_all (suc n) more

pub difference : (a b : ℕ) → a < b → pos a -ℤ pos b ≡ negsuc (b - a - 1)
difference a b lt = grind (arith, ints)

signed_small : (h f a : ℕ) → 0 < h → a < f → f ≤ 2 ^ 64 → IsSmall (if nat_lt a h then pos a else pos a -ℤ pos f)
signed_small h f a some lt le = by (nat_lt a h) refl
  where
    by : (t : Bool) → nat_lt a h ≡ t → IsSmall (if t then pos a else pos a -ℤ pos f)
    by true e = omega (arith, lt, le)
    by false e = let high = ltb-false a h e in subst IsSmall (sym (difference a f lt)) (omega (arith, some, lt, le, high))

pub word_32_atom : (a : ℕ) → a < 2 ^ 32 → is_atom (signed_decimal (signed_of 32 a)) ≡ true
word_32_atom a lt = small_atom (signed_of 32 a) (signed_small (2 ^ 31) (2 ^ 32) a (omega arith) lt (omega arith))

pub word_64_atom : (a : ℕ) → a < 2 ^ 64 → is_atom (signed_decimal (signed_of 64 a)) ≡ true
word_64_atom a lt = small_atom (signed_of 64 a) (signed_small (2 ^ 63) (2 ^ 64) a (omega arith) lt (omega arith))

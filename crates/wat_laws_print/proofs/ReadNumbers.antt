-- Numbers, as they are written, are read as what they are.
use Rattle.std.proofs.Common.{◌≡◌, ℕ, suc, ◌+◌, ◌-◌, ◌%◌, ◌^◌, ◌<◌, ◌≤◌, Bool, true, false, ◌&&◌, List, [], ◌∷◌, ◌++◌, length, take, drop, Option, Some, None, option_map, ℤ, pos, negsuc, ◌-ℤ◌, codes, bytes_eq, refl, sym, ap, subst, ◌∙◌, arith}
use Rattle.std.specs.Prelude.{◌==◌, if◌then◌else◌, nat_lt}
use Rattle.std.specs.List.{list_all}
use Rattle.std.specs.Fmt.{decimal, signed_decimal}
use Rattle.std.proofs.Math.Seq.{take-append_seam, drop-append_seam}
use Rattle.std.proofs.Math.Nat.{mod-eq_of_lt}
use Rattle.std.proofs.lemmas.Bool.{false≢true, and_parts, eqb-true, ltb-true, ltb-false}
use Rattle.std.proofs.lemmas.Fmt.{digits_decimal, digits_value-decimal, decimal_nonempty}
use Rattle.std.proofs.lemmas.Slice.Eq.{bytes_eq-Decides}
use Rattle.sem_words.specs.Words.{word_of, signed_of}
use Rattle.wat_lang.specs.Tokens.{is_digit, is_hexadecimal_digit, value_in}
use Rattle.wat_lang.specs.Numbers.{digits_in, begins_text, natural_of, minus, number_of, is_id, access_of}
use Rattle.wat_laws_print.proofs.Characters.{first_is, second_is}
use Rattle.wat_laws_print.proofs.Numerals.{own, difference}

-- ---- digits

-- a byte that is a digit isn't one that is none
other_than : (b c : ℕ) → is_digit b ≡ true → is_digit c ≡ false → (b == c) ≡ false
other_than b c is isnt = by (b == c) refl
  where
    by : (t : Bool) → (b == c) ≡ t → t ≡ false
    by true e = absurd (false≢true (sym isnt ∙ sym (ap is_digit (eqb-true b c e)) ∙ is))
    by false e = refl

digits_kept : (d : ℕ) (ds : List ℕ) → list_all is_digit (d ∷ ds) ≡ true → digits_in is_digit (d ∷ ds) ≡ Some (d ∷ ds)
digits_kept d [] all = first_is (is_digit d) (Some (d ∷ [])) None (and_parts (is_digit d) (list_all is_digit []) all).0
digits_kept d (c ∷ cs) all =
    let p = and_parts (is_digit d) (list_all is_digit (c ∷ cs)) all in
    let q = and_parts (is_digit c) (list_all is_digit cs) p.1 in
    first_is (is_digit d) (option_map (λ ds. d ∷ ds) (if c == 95 then digits_in is_digit cs else digits_in is_digit (c ∷ cs))) None p.0
    ∙ ap (option_map (λ (ds : List ℕ). d ∷ ds)) (second_is (c == 95) (digits_in is_digit cs) (digits_in is_digit (c ∷ cs)) (other_than c 95 q.0 refl) ∙ digits_kept c cs p.1)

no_prefix : (d : ℕ) (ds : List ℕ) → list_all is_digit (d ∷ ds) ≡ true → begins_text (codes "0x") (d ∷ ds) ≡ false
no_prefix d ds all = by (begins_text (codes "0x") (d ∷ ds)) refl
  where
    under : (ds : List ℕ) → list_all is_digit (d ∷ ds) ≡ true → take 2 (d ∷ ds) ≡ codes "0x" → ⊥
    under [] all e = absurd cc
    under (c ∷ cs) all e =
        let q = and_parts (is_digit c) (list_all is_digit cs) (and_parts (is_digit d) (list_all is_digit (c ∷ cs)) all).1 in
        let same : c ≡ 120 = cc in
        false≢true (sym (ap is_digit same) ∙ q.0)

    by : (t : Bool) → begins_text (codes "0x") (d ∷ ds) ≡ t → t ≡ false
    by true e = absurd (under ds all ((bytes_eq-Decides (take 2 (d ∷ ds)) (codes "0x")).0 e))
    by false e = refl

-- one digit or more
natural_is : (ds : List ℕ) → 0 < length ds → list_all is_digit ds ≡ true → natural_of ds ≡ Some (value_in 10 0 ds)
natural_is [] some all = absurd (omega (arith, some))
natural_is (d ∷ ds) some all =
    second_is (begins_text (codes "0x") (d ∷ ds)) (option_map (value_in 16 0) (digits_in is_hexadecimal_digit (drop 2 (d ∷ ds)))) (option_map (value_in 10 0) (digits_in is_digit (d ∷ ds))) (no_prefix d ds all)
    ∙ ap (option_map (value_in 10 0)) (digits_kept d ds all)

natural_read : (n : ℕ) → n < 2 ^ 64 → natural_of (decimal n) ≡ Some n
natural_read n small = natural_is (decimal n) (decimal_nonempty n small) (digits_decimal own n small) ∙ ap (λ (k : ℕ). let x : Option ℕ = Some k in x) (digits_value-decimal own n small)

-- without a sign
unsigned_is : (ds : List ℕ) → 0 < length ds → list_all is_digit ds ≡ true → number_of ds ≡ option_map pos (natural_of ds)
unsigned_is [] some all = absurd (omega (arith, some))
unsigned_is (d ∷ ds) some all =
    let p = and_parts (is_digit d) (list_all is_digit ds) all in
    second_is (d == 45) (option_map minus (natural_of ds)) _ (other_than d 45 p.0 refl)
    ∙ second_is (d == 43) (option_map pos (natural_of ds)) (option_map pos (natural_of (d ∷ ds))) (other_than d 43 p.0 refl)

pub decimal_read : (n : ℕ) → n < 2 ^ 64 → number_of (decimal n) ≡ Some (pos n)
decimal_read n small = unsigned_is (decimal n) (decimal_nonempty n small) (digits_decimal own n small) ∙ ap (option_map pos) (natural_read n small)

-- digits are no id
no_id : (ds : List ℕ) → list_all is_digit ds ≡ true → is_id ds ≡ false
no_id [] all = refl
no_id (d ∷ []) all = refl
no_id (d ∷ c ∷ cs) all = other_than d 36 (and_parts (is_digit d) (list_all is_digit (c ∷ cs)) all).0 refl

pub decimal_no_id : (n : ℕ) → n < 2 ^ 64 → is_id (decimal n) ≡ false
decimal_no_id n small = no_id (decimal n) (digits_decimal own n small)

-- ---- words

abbrev pub IsShort : ℤ → Type 0
IsShort (pos n) = n < 2 ^ 64
IsShort (negsuc n) = n + 1 < 2 ^ 64

pub signed_read : (z : ℤ) → IsShort z → number_of (signed_decimal z) ≡ Some z
signed_read (pos n) s = decimal_read n s
signed_read (negsuc n) s = let small : suc n < 2 ^ 64 = omega (arith, s) in ap (option_map minus) (natural_read (suc n) small)

-- the signed reading of a word, where a half of all words has the number h
module _ (h f a : ℕ) (half : f ≡ h + h) (some : 0 < h) (lt : a < f) where
  abbrev pub reading : ℤ
  reading = if nat_lt a h then pos a else pos a -ℤ pos f

  pub negative : nat_lt a h ≡ false → reading ≡ negsuc (f - a - 1)
  negative e = second_is (nat_lt a h) (pos a) (pos a -ℤ pos f) e ∙ difference a f lt

  pub positive : nat_lt a h ≡ true → reading ≡ pos a
  positive e = first_is (nat_lt a h) (pos a) (pos a -ℤ pos f) e

  reading_short : f ≤ 2 ^ 64 → IsShort reading
  reading_short le = by (nat_lt a h) refl
    where
      by : (t : Bool) → nat_lt a h ≡ t → IsShort reading
      by true e = subst IsShort (sym (positive e)) (omega (arith, lt, le))
      by false e = let high = ltb-false a h e in subst IsShort (sym (negative e)) (omega (arith, lt, le, high, half, some))

pub word_32_short : (a : ℕ) → a < 2 ^ 32 → IsShort (signed_of 32 a)
word_32_short a lt = reading_short (2 ^ 31) (2 ^ 32) a refl (omega arith) lt (omega arith)

pub word_64_short : (a : ℕ) → a < 2 ^ 64 → IsShort (signed_of 64 a)
word_64_short a lt = reading_short (2 ^ 63) (2 ^ 64) a refl (omega arith) lt (omega arith)

pub word_32_kept : (a : ℕ) → a < 2 ^ 32 → word_of 32 (signed_of 32 a) ≡ a
word_32_kept a lt = by (nat_lt a (2 ^ 31)) refl
  where
    by : (t : Bool) → nat_lt a (2 ^ 31) ≡ t → word_of 32 (signed_of 32 a) ≡ a
    by true e = ap (word_of 32) (positive (2 ^ 31) (2 ^ 32) a refl (omega arith) lt e) ∙ mod-eq_of_lt lt
    by false e =
        let n : ℕ = 2 ^ 32 - a - 1 in
        let small : n % 2 ^ 32 ≡ n = mod-eq_of_lt (omega (arith, lt)) in
        ap (word_of 32) (negative (2 ^ 31) (2 ^ 32) a refl (omega arith) lt e) ∙ omega (arith, small, lt)

pub word_64_kept : (a : ℕ) → a < 2 ^ 64 → word_of 64 (signed_of 64 a) ≡ a
word_64_kept a lt = by (nat_lt a (2 ^ 63)) refl
  where
    by : (t : Bool) → nat_lt a (2 ^ 63) ≡ t → word_of 64 (signed_of 64 a) ≡ a
    by true e = ap (word_of 64) (positive (2 ^ 63) (2 ^ 64) a refl (omega arith) lt e) ∙ mod-eq_of_lt lt
    by false e =
        let n : ℕ = 2 ^ 64 - a - 1 in
        let small : n % 2 ^ 64 ≡ n = mod-eq_of_lt (omega (arith, lt)) in
        ap (word_of 64) (negative (2 ^ 63) (2 ^ 64) a refl (omega arith) lt e) ∙ omega (arith, small, lt)

-- ---- offsets and alignments

pub keyed_read : (key : List ℕ) (n : ℕ) → n < 2 ^ 64 → access_of key (key ++ decimal n) ≡ Some (pos n)
keyed_read key n small =
    let begins : begins_text key (key ++ decimal n) ≡ true = ap (λ (xs : List ℕ). bytes_eq xs key) (take-append_seam key (decimal n)) ∙ (bytes_eq-Decides key key).1 refl in
    first_is (begins_text key (key ++ decimal n)) (number_of (drop (length key) (key ++ decimal n))) None begins
    ∙ ap number_of (drop-append_seam key (decimal n)) ∙ decimal_read n small

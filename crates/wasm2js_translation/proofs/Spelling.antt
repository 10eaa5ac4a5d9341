-- The laws of names, by the letter or the word that a spelling begins with.
use Rattle.std.proofs.Common.{◌≡◌, ℕ, zero, suc, ◌+◌, ◌-◌, ◌<◌, ◌≤◌, Bool, true, false, ◌&&◌, ◌||◌, List, [], ◌∷◌, ◌++◌, Option, Some, None, map, refl, sym, ap, ◌∙◌, subst, inl, inr, arith}
use Rattle.std.proofs.lemmas.Bool.{and_parts}
use Rattle.std.proofs.lemmas.Bool.Decides.{nat_tests}
use Rattle.std.proofs.lemmas.Slice.Eq.{bytes_eq-Decides}
use Rattle.std.proofs.lemmas.Int.Digits.{all_below_base_digits_of, first_digits_of, number_digits_of}
use Rattle.std.specs.Int.Digits.{digits_of, number_from_digits, AllBelowBase}
use Rattle.std.specs.List.{list_all}
use Rattle.std.specs.Prelude.{codes, bytes_eq, get_or, nat_le, nat_eq, if◌then◌else◌, ◌==◌}
use Rattle.asm_lang_tokens.specs.Bytes.{begins_name, is_digit, is_name_byte}
use Rattle.asm_lang.specs.Lexemes.{Class, identifier, Entry, class_in, reserved_words}
use Rattle.asm_lang_valid.specs.Scope.{is_in}
use Rattle.asm_lang_valid.specs.NameRows.{is_forbidden, is_forbidden_key}
use Rattle.wasm2js_translation.specs.Names.{Numbered, local_low, local_high, operand_low, operand_high, global_low, global_high, function, foreign, table, no_entry, other_entry, label, Fixed, view_of_bytes, view_of_signed_bytes, view_of_words, imul, clz32, trap, high, spare_high, result_high, shift_left, shift_right_signed, shift_right, rotate_left, leading_zeros, trailing_zeros, set_bits, divide_signed, divide, remainder_signed, remainder, load_32, load_64, store_32, store_64, copy, fill, data_words, data_zeros, init, last_high, Name, numbered, fixed, letter, numeral, word, spelled, own_words, Rank, IsBefore, rank, RisesFrom, Rises}
use Rattle.wasm2js_translation.specs.TermsLaws.{SpellingsDiffer, IsUsable, SpellingsAreUsable, RisingNamesAreNew}

-- ---- numerals

abbrev value : List ℕ → ℕ
value bs = number_from_digits 10 (map (λ b. b - 48) bs)

less_again : (ds : List ℕ) → map (λ b. b - 48) (map (λ d. 48 + d) ds) ≡ ds
less_again [] = refl
less_again (d ∷ ds) = let e : (48 + d) - 48 ≡ d = omega arith in let h = less_again ds in cc (e, h)

numeral_value : (n : ℕ) → value (numeral n) ≡ n
numeral_value zero = refl
numeral_value (suc n) = ap (number_from_digits 10) (less_again (digits_of 10 (suc n))) ∙ number_digits_of 10 (suc n) (omega arith)

same_number : (a b : ℕ) → numeral a ≡ numeral b → a ≡ b
same_number a b e = sym (numeral_value a) ∙ ap value e ∙ numeral_value b

abbrev AreDigits : List ℕ → Type 0
AreDigits [] = Unit {0}
AreDigits (b ∷ bs) = (48 ≤ b) × (b ≤ 57) × AreDigits bs

shifted : (ds : List ℕ) → AllBelowBase 10 ds → AreDigits (map (λ d. 48 + d) ds)
shifted [] h = tt
shifted (d ∷ ds) h = (omega arith, omega (arith, h.0), shifted ds h.1)

numeral_digits : (n : ℕ) → AreDigits (numeral n)
numeral_digits zero = (omega arith, omega arith, tt)
numeral_digits (suc n) = shifted (digits_of 10 (suc n)) (all_below_base_digits_of 10 (suc n) (omega arith))

record Front (bs : List ℕ) : Type 0 where
  first : ℕ
  others : List ℕ
  is : bs ≡ first ∷ others
  low : first ≤ 57

front_of : (bs : List ℕ) → AreDigits bs → (bs ≡ [] → ⊥) → Front bs
front_of [] h some = absurd (some refl)
front_of (b ∷ bs) h some = record { first = b; others = bs; is = refl; low = h.1 }

shifted_some : (ds : List ℕ) → 0 < get_or ds 0 0 → map (λ d. 48 + d) ds ≡ [] → ⊥
shifted_some [] h e = omega (arith, h)
shifted_some (d ∷ ds) h e = cc e

numeral_some : (n : ℕ) → numeral n ≡ [] → ⊥
numeral_some zero e = cc e
numeral_some (suc n) e = shifted_some (digits_of 10 (suc n)) (first_digits_of 10 (suc n) (omega arith) (omega arith)) e

numeral_front : (n : ℕ) → Front (numeral n)
numeral_front n = front_of (numeral n) (numeral_digits n) (numeral_some n)

or_true : (a : Bool) → (a || true) ≡ true
or_true true = refl
or_true false = refl

digit_is : (b : ℕ) → 48 ≤ b → b ≤ 57 → is_digit b ≡ true
digit_is b h k = grind (arith, nat_tests)

name_byte : (b : ℕ) → 48 ≤ b → b ≤ 57 → is_name_byte b ≡ true
name_byte b h k = rw (digit_is b h k) (or_true (begins_name b))

name_bytes : (bs : List ℕ) → AreDigits bs → list_all is_name_byte bs ≡ true
name_bytes [] h = refl
name_bytes (b ∷ bs) h = let e = name_byte b h.0 h.1 in let k = name_bytes bs h.2 in rw (e, k) refl

-- ---- words whose second byte isn't a digit

abbrev late : List ℕ → Bool
late (a ∷ b ∷ bs) = nat_le 58 b
late _ = false

and_false : (a : Bool) → (a && false) ≡ false
and_false true = refl
and_false false = refl

unequal : (b d : ℕ) → nat_le 58 b ≡ true → d ≤ 57 → nat_eq b d ≡ false
unequal b d h k = grind (arith, nat_tests)

apart_late : (w : List ℕ) (l d : ℕ) (ds : List ℕ) → late w ≡ true → d ≤ 57 → bytes_eq w (l ∷ d ∷ ds) ≡ false
apart_late [] l d ds h k = absurd (cc h)
apart_late (a ∷ []) l d ds h k = absurd (cc h)
apart_late (a ∷ b ∷ bs) l d ds h k = let e = unequal b d h k in rw e (and_false (nat_eq a l))

abbrev all_late : List Entry → Bool
all_late [] = true
all_late (e ∷ es) = late e.spelling && all_late es

class_late : (es : List Entry) (l d : ℕ) (ds : List ℕ) (last : Class) → all_late es ≡ true → d ≤ 57 → class_in es (l ∷ d ∷ ds) last ≡ last
class_late [] l d ds last h k = refl
class_late (e ∷ es) l d ds last h k =
    let p = and_parts _ _ h in
    let q = apart_late e.spelling l d ds p.0 k in
    rw q (class_late es l d ds last p.1 k)

-- ---- numbered names

letter_begins : (k : Numbered) → begins_name (letter k) ≡ true
letter_begins local_low = refl
letter_begins local_high = refl
letter_begins operand_low = refl
letter_begins operand_high = refl
letter_begins global_low = refl
letter_begins global_high = refl
letter_begins function = refl
letter_begins foreign = refl
letter_begins table = refl
letter_begins no_entry = refl
letter_begins other_entry = refl
letter_begins label = refl

numbered_usable : (k : Numbered) (n : ℕ) → IsUsable (numbered k n)
numbered_usable k n = by (numeral_front n)
  where
    by : Front (numeral n) → IsUsable (numbered k n)
    by f =
        let e = f.is in
        record {
          is_word = rw (letter_begins k) (name_bytes (numeral n) (numeral_digits n));
          is_identifier = subst (λ bs. class_in reserved_words (letter k ∷ bs) identifier ≡ identifier) (sym e) (class_late reserved_words (letter k) f.first f.others identifier refl f.low);
          may_be_declared = subst (λ bs. is_forbidden (letter k ∷ bs) ≡ false) (sym e)
              (let a = apart_late (codes "arguments") (letter k) f.first f.others refl f.low in let b = apart_late (codes "eval") (letter k) f.first f.others refl f.low in rw (a, b) refl);
          may_be_a_key = subst (λ bs. is_forbidden_key (letter k ∷ bs) ≡ false) (sym e) (apart_late (codes "__proto__") (letter k) f.first f.others refl f.low);
          is_not_own = subst (λ bs. is_in (letter k ∷ bs) own_words ≡ false) (sym e)
              (let a = apart_late (codes "wasm") (letter k) f.first f.others refl f.low in let b = apart_late (codes "stdlib") (letter k) f.first f.others refl f.low in
              let c = apart_late (codes "foreign") (letter k) f.first f.others refl f.low in let d = apart_late (codes "heap") (letter k) f.first f.others refl f.low in
              rw (a, b, c, d) refl);
        }

-- ---- fixed names

fixed_usable : (f : Fixed) → IsUsable (fixed f)
fixed_usable view_of_bytes = record { is_word = refl; is_identifier = refl; may_be_declared = refl; may_be_a_key = refl; is_not_own = refl }
fixed_usable view_of_signed_bytes = record { is_word = refl; is_identifier = refl; may_be_declared = refl; may_be_a_key = refl; is_not_own = refl }
fixed_usable view_of_words = record { is_word = refl; is_identifier = refl; may_be_declared = refl; may_be_a_key = refl; is_not_own = refl }
fixed_usable imul = record { is_word = refl; is_identifier = refl; may_be_declared = refl; may_be_a_key = refl; is_not_own = refl }
fixed_usable clz32 = record { is_word = refl; is_identifier = refl; may_be_declared = refl; may_be_a_key = refl; is_not_own = refl }
fixed_usable trap = record { is_word = refl; is_identifier = refl; may_be_declared = refl; may_be_a_key = refl; is_not_own = refl }
fixed_usable high = record { is_word = refl; is_identifier = refl; may_be_declared = refl; may_be_a_key = refl; is_not_own = refl }
fixed_usable spare_high = record { is_word = refl; is_identifier = refl; may_be_declared = refl; may_be_a_key = refl; is_not_own = refl }
fixed_usable result_high = record { is_word = refl; is_identifier = refl; may_be_declared = refl; may_be_a_key = refl; is_not_own = refl }
fixed_usable shift_left = record { is_word = refl; is_identifier = refl; may_be_declared = refl; may_be_a_key = refl; is_not_own = refl }
fixed_usable shift_right_signed = record { is_word = refl; is_identifier = refl; may_be_declared = refl; may_be_a_key = refl; is_not_own = refl }
fixed_usable shift_right = record { is_word = refl; is_identifier = refl; may_be_declared = refl; may_be_a_key = refl; is_not_own = refl }
fixed_usable rotate_left = record { is_word = refl; is_identifier = refl; may_be_declared = refl; may_be_a_key = refl; is_not_own = refl }
fixed_usable leading_zeros = record { is_word = refl; is_identifier = refl; may_be_declared = refl; may_be_a_key = refl; is_not_own = refl }
fixed_usable trailing_zeros = record { is_word = refl; is_identifier = refl; may_be_declared = refl; may_be_a_key = refl; is_not_own = refl }
fixed_usable set_bits = record { is_word = refl; is_identifier = refl; may_be_declared = refl; may_be_a_key = refl; is_not_own = refl }
fixed_usable divide_signed = record { is_word = refl; is_identifier = refl; may_be_declared = refl; may_be_a_key = refl; is_not_own = refl }
fixed_usable divide = record { is_word = refl; is_identifier = refl; may_be_declared = refl; may_be_a_key = refl; is_not_own = refl }
fixed_usable remainder_signed = record { is_word = refl; is_identifier = refl; may_be_declared = refl; may_be_a_key = refl; is_not_own = refl }
fixed_usable remainder = record { is_word = refl; is_identifier = refl; may_be_declared = refl; may_be_a_key = refl; is_not_own = refl }
fixed_usable load_32 = record { is_word = refl; is_identifier = refl; may_be_declared = refl; may_be_a_key = refl; is_not_own = refl }
fixed_usable load_64 = record { is_word = refl; is_identifier = refl; may_be_declared = refl; may_be_a_key = refl; is_not_own = refl }
fixed_usable store_32 = record { is_word = refl; is_identifier = refl; may_be_declared = refl; may_be_a_key = refl; is_not_own = refl }
fixed_usable store_64 = record { is_word = refl; is_identifier = refl; may_be_declared = refl; may_be_a_key = refl; is_not_own = refl }
fixed_usable copy = record { is_word = refl; is_identifier = refl; may_be_declared = refl; may_be_a_key = refl; is_not_own = refl }
fixed_usable fill = record { is_word = refl; is_identifier = refl; may_be_declared = refl; may_be_a_key = refl; is_not_own = refl }
fixed_usable data_words = record { is_word = refl; is_identifier = refl; may_be_declared = refl; may_be_a_key = refl; is_not_own = refl }
fixed_usable data_zeros = record { is_word = refl; is_identifier = refl; may_be_declared = refl; may_be_a_key = refl; is_not_own = refl }
fixed_usable init = record { is_word = refl; is_identifier = refl; may_be_declared = refl; may_be_a_key = refl; is_not_own = refl }
fixed_usable last_high = record { is_word = refl; is_identifier = refl; may_be_declared = refl; may_be_a_key = refl; is_not_own = refl }

pub spellings_are_usable : SpellingsAreUsable
spellings_are_usable (numbered k n) = numbered_usable k n
spellings_are_usable (fixed f) = fixed_usable f

-- ---- a name is told by its spelling

abbrev kind_at : ℕ → Option Numbered
kind_at b = if b == 120 then Some local_low else (if b == 88 then Some local_high else (if b == 115 then Some operand_low else (if b == 83 then Some operand_high else (if b == 103 then Some global_low else (if b == 71 then Some global_high else (if b == 102 then Some function else (if b == 105 then Some foreign else (if b == 116 then Some table else (if b == 101 then Some no_entry else (if b == 111 then Some other_entry else (if b == 76 then Some label else None)))))))))))

kind_found : (k : Numbered) → kind_at (letter k) ≡ Some k
kind_found local_low = refl
kind_found local_high = refl
kind_found operand_low = refl
kind_found operand_high = refl
kind_found global_low = refl
kind_found global_high = refl
kind_found function = refl
kind_found foreign = refl
kind_found table = refl
kind_found no_entry = refl
kind_found other_entry = refl
kind_found label = refl

abbrev all_fixed : List Fixed
all_fixed =
    view_of_bytes ∷ view_of_signed_bytes ∷ view_of_words ∷ imul ∷ clz32 ∷ trap ∷ high ∷ spare_high ∷ result_high ∷ shift_left ∷ shift_right_signed ∷ shift_right ∷ rotate_left ∷ leading_zeros ∷ trailing_zeros ∷ set_bits ∷ divide_signed ∷ divide ∷ remainder_signed ∷ remainder ∷ load_32 ∷ load_64 ∷ store_32 ∷ store_64 ∷ copy ∷ fill ∷ data_words ∷ data_zeros ∷ init ∷ last_high ∷ []

abbrev fixed_in : List Fixed → List ℕ → Option Fixed
fixed_in [] s = None
fixed_in (f ∷ fs) s = if bytes_eq (word f) s then Some f else fixed_in fs s

fixed_found : (f : Fixed) → fixed_in all_fixed (word f) ≡ Some f
fixed_found view_of_bytes = refl
fixed_found view_of_signed_bytes = refl
fixed_found view_of_words = refl
fixed_found imul = refl
fixed_found clz32 = refl
fixed_found trap = refl
fixed_found high = refl
fixed_found spare_high = refl
fixed_found result_high = refl
fixed_found shift_left = refl
fixed_found shift_right_signed = refl
fixed_found shift_right = refl
fixed_found rotate_left = refl
fixed_found leading_zeros = refl
fixed_found trailing_zeros = refl
fixed_found set_bits = refl
fixed_found divide_signed = refl
fixed_found divide = refl
fixed_found remainder_signed = refl
fixed_found remainder = refl
fixed_found load_32 = refl
fixed_found load_64 = refl
fixed_found store_32 = refl
fixed_found store_64 = refl
fixed_found copy = refl
fixed_found fill = refl
fixed_found data_words = refl
fixed_found data_zeros = refl
fixed_found init = refl
fixed_found last_high = refl

abbrev head : List ℕ → ℕ
head [] = 0
head (b ∷ bs) = b

fixed_head : (f : Fixed) → kind_at (head (word f)) ≡ None
fixed_head view_of_bytes = refl
fixed_head view_of_signed_bytes = refl
fixed_head view_of_words = refl
fixed_head imul = refl
fixed_head clz32 = refl
fixed_head trap = refl
fixed_head high = refl
fixed_head spare_high = refl
fixed_head result_high = refl
fixed_head shift_left = refl
fixed_head shift_right_signed = refl
fixed_head shift_right = refl
fixed_head rotate_left = refl
fixed_head leading_zeros = refl
fixed_head trailing_zeros = refl
fixed_head set_bits = refl
fixed_head divide_signed = refl
fixed_head divide = refl
fixed_head remainder_signed = refl
fixed_head remainder = refl
fixed_head load_32 = refl
fixed_head load_64 = refl
fixed_head store_32 = refl
fixed_head store_64 = refl
fixed_head copy = refl
fixed_head fill = refl
fixed_head data_words = refl
fixed_head data_zeros = refl
fixed_head init = refl
fixed_head last_high = refl

same_kind : (a b : Numbered) → letter a ≡ letter b → a ≡ b
same_kind a b e = let h : Some a ≡ Some b = sym (kind_found a) ∙ ap kind_at e ∙ kind_found b in cc h

same_fixed : (a b : Fixed) → word a ≡ word b → a ≡ b
same_fixed a b e = let h : Some a ≡ Some b = sym (fixed_found a) ∙ ap (fixed_in all_fixed) e ∙ fixed_found b in cc h

not_fixed : (k : Numbered) (n : ℕ) (f : Fixed) → spelled (numbered k n) ≡ word f → ⊥
not_fixed k n f e = let h : Some k ≡ None = sym (kind_found k) ∙ ap (λ s. kind_at (head s)) e ∙ fixed_head f in cc h

abbrev tail : List ℕ → List ℕ
tail [] = []
tail (b ∷ bs) = bs

pub spellings_differ : SpellingsDiffer
spellings_differ (numbered k n) (numbered j m) e =
    let a = same_kind k j (ap head e) in
    let b = same_number n m (ap tail e) in
    cc (a, b)
spellings_differ (numbered k n) (fixed f) e = absurd (not_fixed k n f e)
spellings_differ (fixed f) (numbered k n) e = absurd (not_fixed k n f (sym e))
spellings_differ (fixed f) (fixed g) e = ap fixed (same_fixed f g e)

-- ---- rising ranks

later_still : (a b c : Rank) → IsBefore a b → IsBefore b c → IsBefore a c
later_still a b c (inl h) (inl k) = inl (omega (arith, h, k))
later_still a b c (inl h) (inr k) = inl (let e = k.0 in omega (arith, h, e))
later_still a b c (inr h) (inl k) = inl (let e = h.0 in omega (arith, e, k))
later_still a b c (inr h) (inr k) = inr (h.0 ∙ k.0, omega (arith, h.1, k.1))

not_before_itself : (a : Rank) → IsBefore a a → ⊥
not_before_itself a (inl h) = omega (arith, h)
not_before_itself a (inr h) = omega (arith, h.1)

after_all : (r : Rank) (earlier : List Name) (n : Name) (later : List Name) → RisesFrom r (earlier ++ n ∷ later) → IsBefore r (rank n)
after_all r [] n later h = h.0
after_all r (x ∷ xs) n later h = later_still r (rank x) (rank n) h.0 (after_all (rank x) xs n later h.1)

rest_rises : (r : Rank) (ns : List Name) → RisesFrom r ns → Rises ns
rest_rises r [] h = tt
rest_rises r (n ∷ ns) h = h.1

apart : (a b : List ℕ) → (a ≡ b → ⊥) → bytes_eq a b ≡ false
apart a b h = by (bytes_eq a b) refl
  where
    by : (t : Bool) → bytes_eq a b ≡ t → bytes_eq a b ≡ false
    by true e = absurd (h ((bytes_eq-Decides a b).0 e))
    by false e = e

pub rising_names_are_new : RisingNamesAreNew
rising_names_are_new [] n later h = refl
rising_names_are_new (x ∷ xs) n later h =
    let before = after_all (rank x) xs n later h in
    let e = apart (spelled x) (spelled n) (λ s. not_before_itself (rank n) (subst (λ y. IsBefore (rank y) (rank n)) (spellings_differ x n s) before)) in
    rw e (rising_names_are_new xs n later (rest_rises (rank x) (xs ++ n ∷ later) h))

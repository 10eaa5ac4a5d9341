-- The kind of a text whose class is known.
use Rattle.std.proofs.Common.{◌≡◌, ℕ, ◌^◌, ◌<◌, Bool, true, false, cond, not, ◌||◌, List, [], ◌∷◌, refl, ap, arith}
use Rattle.std.specs.Prelude.{bytes_eq}
use Rattle.std.specs.List.{list_all}
use Rattle.std.proofs.lemmas.Bool.{and_parts, both_ways, ltb-true}
use Rattle.asm_lang_tokens.specs.Forms.{is_name, is_number, is_decimal, is_quoted, is_plain, is_hexadecimal, number_value, Kind, name, number, decimal, quoted, punctuator, kind_of}
use Rattle.asm_lang.specs.Lexemes.{Class, identifier, a_decimal, directive, other, Entry, class_in, reserved_words, signs, is_directive, class_of, value_of, is_word}

-- what holds of each class of a table holds of the class that is found
class_in_all : (P : Class → Bool) (es : List Entry) (w : List ℕ) (last : Class) → P last ≡ true → list_all (λ (e : Entry). P e.class) es ≡ true → P (class_in es w last) ≡ true
class_in_all P [] w last h all = h
class_in_all P (e ∷ es) w last h all =
    let both = and_parts (P e.class) (list_all (λ (e : Entry). P e.class) es) all in
    let Q : Bool → Type 0 = λ t. P (cond t e.class (class_in es w last)) ≡ true in
    let each : Q (bytes_eq e.spelling w) = elim (bytes_eq e.spelling w) as Q [ true ↦ both.0 | false ↦ class_in_all P es w last h both.1 ] in
    each

abbrev is_decimal_class : Class → Bool
is_decimal_class a_decimal = true
is_decimal_class _ = false

quoted_class : (P : Class → Bool) (b : Bool) → P directive ≡ true → P other ≡ true → P (cond b directive other) ≡ true
quoted_class P true h k = h
quoted_class P false h k = k

sign_no_word : (w : List ℕ) → not (is_word (class_in signs w other)) ≡ true
sign_no_word w = class_in_all (λ c. not (is_word c)) signs w other refl refl

pub word_kind : (k : Kind) (w : List ℕ) → is_word (class_of k w) ≡ true → k ≡ name
word_kind name w h = refl
word_kind (number n) w h = absurd cc
word_kind decimal w h = absurd cc
word_kind quoted w h = absurd (both_ways (not (is_word (class_of quoted w))) (ap not h) (quoted_class (λ c. not (is_word c)) (is_directive w) refl refl))
word_kind punctuator w h = absurd (both_ways (not (is_word (class_of punctuator w))) (ap not h) (sign_no_word w))

pub decimal_kind_is : (k : Kind) (w : List ℕ) → class_of k w ≡ a_decimal → k ≡ decimal
decimal_kind_is name w h = absurd (both_ways (not (is_decimal_class (class_of name w))) (ap (λ c. not (is_decimal_class c)) h) (class_in_all (λ c. not (is_decimal_class c)) reserved_words w identifier refl refl))
decimal_kind_is (number n) w h = absurd cc
decimal_kind_is decimal w h = refl
decimal_kind_is quoted w h = absurd (both_ways (not (is_decimal_class (class_of quoted w))) (ap (λ c. not (is_decimal_class c)) h) (quoted_class (λ c. not (is_decimal_class c)) (is_directive w) refl refl))
decimal_kind_is punctuator w h = absurd (both_ways (not (is_decimal_class (class_of punctuator w))) (ap (λ c. not (is_decimal_class c)) h) (class_in_all (λ c. not (is_decimal_class c)) signs w other refl refl))

-- ---- what the kind says of the text

name_is : (a b c d : Bool) (n : ℕ) → cond a name (cond b (number n) (cond c decimal (cond d quoted punctuator))) ≡ name → a ≡ true
name_is true b c d n h = refl
name_is false true c d n h = absurd cc
name_is false false true d n h = absurd cc
name_is false false false true n h = absurd cc
name_is false false false false n h = absurd cc

decimal_is : (a b c d : Bool) (n : ℕ) → cond a name (cond b (number n) (cond c decimal (cond d quoted punctuator))) ≡ decimal → c ≡ true
decimal_is true b c d n h = absurd cc
decimal_is false true c d n h = absurd cc
decimal_is false false true d n h = refl
decimal_is false false false true n h = absurd cc
decimal_is false false false false n h = absurd cc

value_is : (a b c d : Bool) (n : ℕ) → (b ≡ true → n < 2 ^ 64) → value_of (cond a name (cond b (number n) (cond c decimal (cond d quoted punctuator)))) < 2 ^ 64
value_is true b c d n h = omega arith
value_is false true c d n h = h refl
value_is false false true d n h = omega arith
value_is false false false true n h = omega arith
value_is false false false false n h = omega arith

pub word_is_name : (w : List ℕ) → is_word (class_of (kind_of w) w) ≡ true → is_name w ≡ true
word_is_name w h = name_is (is_name w) (is_number w) (is_decimal w) (is_quoted w) (number_value w) (word_kind (kind_of w) w h)

pub identifier_is_name : (w : List ℕ) → class_of (kind_of w) w ≡ identifier → is_name w ≡ true
identifier_is_name w h = word_is_name w (ap is_word h)

pub decimal_is_decimal : (w : List ℕ) → class_of (kind_of w) w ≡ a_decimal → is_decimal w ≡ true
decimal_is_decimal w h = decimal_is (is_name w) (is_number w) (is_decimal w) (is_quoted w) (number_value w) (decimal_kind_is (kind_of w) w h)

pub value_small : (w : List ℕ) → value_of (kind_of w) < 2 ^ 64
value_small w = value_is (is_name w) (is_number w) (is_decimal w) (is_quoted w) (number_value w) (λ h. ltb-true (number_value w) (2 ^ 64) (and_parts (is_plain w || is_hexadecimal w) _ h).1)

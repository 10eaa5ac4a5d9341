-- Names of members are ASCII, and so UTF-8.
use Rattle.std.proofs.Common.{◌≡◌, ℕ, zero, suc, ◌<◌, Bool, true, false, not, List, [], ◌∷◌, refl, arith}
use Rattle.std.specs.Prelude.{if◌then◌else◌, bytes_eq}
use Rattle.std.specs.Str.{IsAscii}
use Rattle.std.specs.List.{AllByRecursion, list_all}
use Rattle.std.proofs.lemmas.Bool.{and_parts}
use Rattle.std.proofs.lemmas.Bool.Decides.{nat_tests}
use Rattle.std.proofs.lemmas.Str.{IsUtf8-from_ascii}
use Rattle.asm_lang_tokens.specs.Bytes.{begins_name, is_name_byte}
use Rattle.asm_lang_tokens.specs.Forms.{kind_of, is_name, is_number, is_decimal, is_quoted, number_value, name, number as a_number, decimal as a_decimal, quoted, punctuator}
use Rattle.asm_lang.specs.Lexemes.{Class, Entry, class_in, signs, is_directive, directive, other, class_of, is_word}
use Rattle.asm2wasm_laws_writable.specs.OpcodesLaws.{PropertiesAreUtf8}

-- ---- properties are names

byte_low : (b : ℕ) → is_name_byte b ≡ true → b < 128
byte_low b h = grind (arith, nat_tests)

first_low : (b : ℕ) → begins_name b ≡ true → b < 128
first_low b h = grind (arith, nat_tests)

rest_low : (bs : List ℕ) → list_all is_name_byte bs ≡ true → AllByRecursion (λ b. b < 128) bs
rest_low [] h = tt
rest_low (b ∷ bs) h = let parts = and_parts (is_name_byte b) (list_all is_name_byte bs) h in (byte_low b parts.0, rest_low bs parts.1)

pub all_low : (bs : List ℕ) → AllByRecursion (λ b. b < 128) bs → IsAscii bs
all_low [] all i = omega arith
all_low (b ∷ bs) all zero = all.0
all_low (b ∷ bs) all (suc i) = all_low bs all.1 i

name_low : (bs : List ℕ) → is_name bs ≡ true → IsAscii bs
name_low [] h = absurd (cc h)
name_low (b ∷ bs) h = let parts = and_parts (begins_name b) (list_all is_name_byte bs) h in all_low (b ∷ bs) (first_low b parts.0, rest_low bs parts.1)

no_word : (es : List Entry) (text : List ℕ) (last : Class) → list_all (λ (e : Entry). not (is_word e.class)) es ≡ true → is_word last ≡ false → is_word (class_in es text last) ≡ false
no_word [] text last h l = l
no_word (e ∷ es) text last h l =
    let parts = and_parts (not (is_word e.class)) (list_all (λ (e : Entry). not (is_word e.class)) es) h in
    by (bytes_eq e.spelling text) (not_true (is_word e.class) parts.0) (no_word es text last parts.1 l)
  where
    not_true : (b : Bool) → not b ≡ true → b ≡ false
    not_true true h = absurd (cc h)
    not_true false h = refl

    by : (b : Bool) → is_word e.class ≡ false → is_word (class_in es text last) ≡ false → is_word (if b then e.class else class_in es text last) ≡ false
    by true first rest = first
    by false first rest = rest

pub property_low : (w : List ℕ) → is_word (class_of (kind_of w) w) ≡ true → IsAscii w
property_low w h = by (is_name w) (is_number w) (is_decimal w) (is_quoted w) refl h
  where
    unlike : {b : Bool} → b ≡ false → b ≡ true → IsAscii w
    unlike f t = absurd (cc (f, t))

    directive_no : (b : Bool) → is_word (if b then directive else other) ≡ false
    directive_no true = refl
    directive_no false = refl

    by : (n u d q : Bool) → is_name w ≡ n
        → is_word (class_of (if n then name else (if u then a_number (number_value w) else (if d then a_decimal else (if q then quoted else punctuator)))) w) ≡ true → IsAscii w
    by true u d q e h = name_low w e
    by false true d q e h = absurd (cc h)
    by false false true q e h = absurd (cc h)
    by false false false true e h = unlike (directive_no (is_directive w)) h
    by false false false false e h = unlike (no_word signs w other refl refl) h

pub properties_are_utf8 : PropertiesAreUtf8
properties_are_utf8 w h = IsUtf8-from_ascii w (property_low w h)

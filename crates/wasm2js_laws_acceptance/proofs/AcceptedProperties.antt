-- Plain names are properties, which may be reserved words.
use Rattle.std.proofs.Common.{◌≡◌, ℕ, Bool, true, false, ◌&&◌, List, [], ◌∷◌, refl, sym, ap, ◌∙◌, subst}
use Rattle.std.specs.Prelude.{bytes_eq, codes, not, nat_le, ◌==◌, ◌||◌, if◌then◌else◌}
use Rattle.std.specs.List.{list_all}
use Rattle.std.proofs.lemmas.Bool.{and_parts, and_from}
use Rattle.session_lang.specs.Names.{is_name_start, is_name_part, is_plain_name}
use Rattle.asm_lang_tokens.specs.Bytes.{begins_name, is_name_byte}
use Rattle.asm_lang_tokens.specs.Forms.{name, kind_of, is_name, is_number, number, number_value, is_decimal, decimal, is_quoted, quoted, punctuator}
use Rattle.asm_lang.specs.Lexemes.{identifier, Entry, class_in, reserved_words, class_of, is_word}
use Rattle.asm_laws_print.specs.Fitting.{IsProperty}

-- ---- the two tests of bytes say the same

in_order : (a b c d : Bool) → (((a || b) || c) || d) ≡ ((b || a) || (c || d))
in_order true true c d = refl
in_order true false c d = refl
in_order false true c d = refl
in_order false false c d = refl

begins_alike : (b : ℕ) → is_name_start b ≡ begins_name b
begins_alike b = in_order (nat_le 65 b && nat_le b 90) (nat_le 97 b && nat_le b 122) (b == 95) (b == 36)

goes_on_alike : (b : ℕ) → is_name_part b ≡ is_name_byte b
goes_on_alike b = ap (λ t. t || (nat_le 48 b && nat_le b 57)) (begins_alike b)

all_alike : (bs : List ℕ) → list_all is_name_part bs ≡ true → list_all is_name_byte bs ≡ true
all_alike [] h = refl
all_alike (b ∷ bs) h = let p = and_parts (is_name_part b) (list_all is_name_part bs) h in and_from (is_name_byte b) (list_all is_name_byte bs) (sym (goes_on_alike b) ∙ p.0) (all_alike bs p.1)

plain_is_name : (bs : List ℕ) → is_plain_name bs ≡ true → is_name bs ≡ true
plain_is_name [] h = absurd (cc h)
plain_is_name (b ∷ bs) h =
    let p = and_parts (is_name_start b && list_all is_name_part (b ∷ bs)) (not (bytes_eq (b ∷ bs) (codes "__proto__"))) h in
    let q = and_parts (is_name_start b) (list_all is_name_part (b ∷ bs)) p.0 in
    let r = and_parts (is_name_part b) (list_all is_name_part bs) q.1 in
    and_from (begins_name b) (list_all is_name_byte bs) (sym (begins_alike b) ∙ q.0) (all_alike bs r.1)

-- ---- a name is a word

all_words : (es : List Entry) → list_all (λ (e : Entry). is_word e.class) es ≡ true → (w : List ℕ) → is_word (class_in es w identifier) ≡ true
all_words [] h w = refl
all_words (e ∷ es) h w = let p = and_parts (is_word e.class) (list_all (λ (e : Entry). is_word e.class) es) h in by (bytes_eq e.spelling w) p.0 (all_words es p.1 w)
  where
    by : (b : Bool) → is_word e.class ≡ true → is_word (class_in es w identifier) ≡ true → is_word (if b then e.class else class_in es w identifier) ≡ true
    by true h k = h
    by false h k = k

name_is_word : (w : List ℕ) → is_word (class_of name w) ≡ true
name_is_word w = all_words reserved_words refl w

pub plain_is_property : (w : List ℕ) → is_plain_name w ≡ true → IsProperty w
plain_is_property w h =
    let k : kind_of w ≡ name = ap (λ b. if b then name else (if is_number w then number (number_value w) else (if is_decimal w then decimal else (if is_quoted w then quoted else punctuator)))) (plain_is_name w h) in
    subst (λ k. is_word (class_of k w) ≡ true) (sym k) (name_is_word w)

-- Names of imported variables of a module that a text says are bytes.
use Rattle.std.proofs.Common.{◌≡◌, ℕ, zero, suc, ◌<◌, Bool, true, false, not, List, [], ◌∷◌, ◌++◌, refl, subst, arith}
use Rattle.std.specs.Prelude.{if◌then◌else◌, ◌||◌, bytes_eq}
use Rattle.std.specs.List.{AllByRecursion, list_all}
use Rattle.std.proofs.lemmas.Bool.{and_parts}
use Rattle.std.proofs.lemmas.Bool.Decides.{nat_tests}
use Rattle.std.proofs.lemmas.Slice.Eq.{bytes_eq-Decides}
use Rattle.hex.specs.Hex.{IsBytes}
use Rattle.asm_lang_tokens.specs.Bytes.{begins_name, is_name_byte}
use Rattle.asm_lang_tokens.specs.Forms.{is_name, is_number, is_decimal, is_quoted, number_value, name, number as a_number, decimal as a_decimal, quoted, punctuator}
use Rattle.asm_lang.specs.Lexemes.{Class, Entry, class_in, signs, is_directive, directive, other, class_of, is_word}
use Rattle.asm_lang.specs.Trees.{Init, foreign_int}
use Rattle.asm_lang.specs.Modules.{Variable, Module}
use Rattle.asm_lang_valid.specs.Scope.{is_in}
use Rattle.asm_lang_valid.specs.Refusal.{with_global, global_imports, foreign_globals}
use Rattle.asm_laws_print.specs.Fitting.{IsProperty, FitsInit, FitsGlobal, FitsModule}

-- ---- properties are names

byte_low : (b : ℕ) → is_name_byte b ≡ true → b < 256
byte_low b h = grind (arith, nat_tests)

first_low : (b : ℕ) → begins_name b ≡ true → b < 256
first_low b h = grind (arith, nat_tests)

rest_low : (bs : List ℕ) → list_all is_name_byte bs ≡ true → AllByRecursion (λ b. b < 256) bs
rest_low [] h = tt
rest_low (b ∷ bs) h = let parts = and_parts (is_name_byte b) (list_all is_name_byte bs) h in (byte_low b parts.0, rest_low bs parts.1)

pub all_low : (bs : List ℕ) → AllByRecursion (λ b. b < 256) bs → IsBytes bs
all_low [] all i = omega arith
all_low (b ∷ bs) all zero = all.0
all_low (b ∷ bs) all (suc i) = all_low bs all.1 i

name_low : (bs : List ℕ) → is_name bs ≡ true → IsBytes bs
name_low [] h = absurd (cc h)
name_low (b ∷ bs) h = let parts = and_parts (begins_name b) (list_all is_name_byte bs) h in all_low (b ∷ bs) (first_low b parts.0, rest_low bs parts.1)

no_word : (es : List Entry) (text : List ℕ) (last : Class) → list_all (λ (e : Entry). not (is_word e.class)) es ≡ true → is_word last ≡ false → is_word (class_in es text last) ≡ false
no_word [] text last h l = l
no_word (e ∷ es) text last h l =
    let parts = and_parts (not (is_word e.class)) (list_all (λ (e : Entry). not (is_word e.class)) es) h in
    by (bytes_eq e.spelling text) (not_true (is_word e.class) parts.0) (no_word es text last parts.1 l)
  where
    not_true : (b : Bool) → not b ≡ true → b ≡ false
    not_true true h = absurd (cc h)
    not_true false h = refl

    by : (b : Bool) → is_word e.class ≡ false → is_word (class_in es text last) ≡ false → is_word (if b then e.class else class_in es text last) ≡ false
    by true first rest = first
    by false first rest = rest

property_low : (w : List ℕ) → IsProperty w → IsBytes w
property_low w h = by (is_name w) (is_number w) (is_decimal w) (is_quoted w) refl h
  where
    unlike : {b : Bool} → b ≡ false → b ≡ true → IsBytes w
    unlike f t = absurd (cc (f, t))

    directive_no : (b : Bool) → is_word (if b then directive else other) ≡ false
    directive_no true = refl
    directive_no false = refl

    by : (n u d q : Bool) → is_name w ≡ n
        → is_word (class_of (if n then name else (if u then a_number (number_value w) else (if d then a_decimal else (if q then quoted else punctuator)))) w) ≡ true → IsBytes w
    by true u d q e h = name_low w e
    by false true d q e h = absurd (cc h)
    by false false true q e h = absurd (cc h)
    by false false false true e h = unlike (directive_no (is_directive w)) h
    by false false false false e h = unlike (no_word signs w other refl refl) h

-- ---- imported variables

both_all : (xs : List (List ℕ)) (p : List ℕ) → AllByRecursion IsBytes xs → IsBytes p → AllByRecursion IsBytes (xs ++ p ∷ [])
both_all [] p a b = (b, tt)
both_all (x ∷ xs) p a b = (a.0, both_all xs p a.1 b)

with_bytes : (seen : List (List ℕ)) (i : Init) → FitsInit i → AllByRecursion IsBytes seen → AllByRecursion IsBytes (with_global seen i)
with_bytes seen (foreign_int f p) fits all = by (is_in p seen)
  where
    by : (b : Bool) → AllByRecursion IsBytes (if b then seen else seen ++ p ∷ [])
    by true = all
    by false = both_all seen p all (property_low p fits.1)
with_bytes seen _ fits all = all

imports_bytes : (seen : List (List ℕ)) (vs : List Variable) → AllByRecursion FitsGlobal vs → AllByRecursion IsBytes seen → AllByRecursion IsBytes (global_imports seen vs)
imports_bytes seen [] fits all = all
imports_bytes seen (v ∷ vs) fits all = imports_bytes (with_global seen v.init) vs fits.1 (with_bytes seen v.init fits.0.1 all)

bytes_of : (xs : List (List ℕ)) (n : List ℕ) → AllByRecursion IsBytes xs → is_in n xs ≡ true → IsBytes n
bytes_of [] n all h = absurd (cc h)
bytes_of (x ∷ xs) n all h = by (bytes_eq x n) refl (bytes_of xs n all.1) h
  where
    by : (b : Bool) → bytes_eq x n ≡ b → (is_in n xs ≡ true → IsBytes n) → (b || is_in n xs) ≡ true → IsBytes n
    by true e rest h = subst IsBytes ((bytes_eq-Decides x n).0 e) all.0
    by false e rest h = rest h

pub imported_bytes : (m : Module) → FitsModule m → (n : List ℕ) → is_in n (foreign_globals m) ≡ true → IsBytes n
imported_bytes m fits n h = bytes_of (foreign_globals m) n (imports_bytes [] m.globals fits.globals tt) h

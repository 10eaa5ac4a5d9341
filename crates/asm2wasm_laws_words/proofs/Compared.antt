-- Comparisons and conditions.
use Rattle.std.proofs.Common.{◌≡◌, ◌^◌, Bool, true, false, not, Some, None, ℤ, pos, ◌-ℤ◌, refl, sym, ap, ◌∙◌, arith}
use Rattle.std.specs.Prelude.{if◌then◌else◌, option_map, ◌==◌, nat_lt, nat_le, int_lt, int_le, FitsSigned}
use Rattle.std.specs.Int.{w32}
use Rattle.std.proofs.lemmas.Bool.Decides.{nat_tests}
use Rattle.std.proofs.lemmas.Int.{ints}
use Rattle.sem_words.specs.declared.word.Rel.{Rel}
use Rattle.sem_words.specs.declared.word.Rel.TheVariants as rels
use Rattle.sem_words.specs.declared.js_value.JsValue.{JsValue}
use Rattle.sem_words.specs.declared.js_value.JsValue.TheVariants.{Whole, Bool as Boolean}
use Rattle.sem_words.specs.declared.js_value.JsOp.{JsOp}
use Rattle.sem_words.specs.declared.js_value.JsOp.TheVariants.{Lt, Le, Gt, Ge, Eq, Ne}
use Rattle.sem_words.specs.JsValues.{to_uint32_of}
use Rattle.sem_words.specs.JsOperators.{is_zero, are_alike, js_binary_of}
use Rattle.sem_words.specs.Words.{word_of, signed_of, rel_of}
use Rattle.sem_words.proofs.WordLaws.{signed_of-word_of_32}
use Rattle.wasm_lang_exec.specs.Plain.{flag}
use Rattle.asm_types.specs.Values.{is_between, least}
use Rattle.asm2wasm_laws_words.specs.Laws.{relation_of, WordsOfComparisons, WordsOfConditions, WordsOfNots}

bool_word : (b : Bool) → flag b ≡ to_uint32_of (Boolean b)
bool_word true = refl
bool_word false = refl

-- a comparison of two numbers that are alike
taken : (test : ℤ → ℤ → Bool) (y z : ℤ) (x : JsValue) → option_map (λ (p : ℤ × ℤ). Boolean (test p.0 p.1)) (if are_alike y z then Some (y, z) else None) ≡ Some x → Boolean (test y z) ≡ x
taken test y z x h = by (are_alike y z) h
  where
    by : (b : Bool) → option_map (λ (p : ℤ × ℤ). Boolean (test p.0 p.1)) (if b then Some (y, z) else None) ≡ Some x → Boolean (test y z) ≡ x
    by true h = cc h
    by false h = absurd (cc h)

fits_signed : (z : ℤ) → is_between least (pos (2 ^ 31)) z ≡ true → FitsSigned w32 z
fits_signed z h = grind (arith, ints, nat_tests)

pub signed_is : (z : ℤ) → is_between least (pos (2 ^ 31)) z ≡ true → signed_of 32 (word_of 32 z) ≡ z
signed_is z h = signed_of-word_of_32 z (fits_signed z h)

equal_signed : (y z : ℤ) → is_between least (pos (2 ^ 31)) y ≡ true → is_between least (pos (2 ^ 31)) z ≡ true → (word_of 32 y == word_of 32 z) ≡ is_zero (y -ℤ z)
equal_signed y z f g = grind (arith, ints, nat_tests)

equal_unsigned : (y z : ℤ) → is_between (pos 0) (pos (2 ^ 32)) y ≡ true → is_between (pos 0) (pos (2 ^ 32)) z ≡ true → (word_of 32 y == word_of 32 z) ≡ is_zero (y -ℤ z)
equal_unsigned y z f g = grind (arith, ints, nat_tests)

less_unsigned : (y z : ℤ) → is_between (pos 0) (pos (2 ^ 32)) y ≡ true → is_between (pos 0) (pos (2 ^ 32)) z ≡ true → nat_lt (word_of 32 y) (word_of 32 z) ≡ int_lt y z
less_unsigned y z f g = grind (arith, ints, nat_tests)

most_unsigned : (y z : ℤ) → is_between (pos 0) (pos (2 ^ 32)) y ≡ true → is_between (pos 0) (pos (2 ^ 32)) z ≡ true → nat_le (word_of 32 y) (word_of 32 z) ≡ int_le y z
most_unsigned y z f g = grind (arith, ints, nat_tests)

-- the relation on words is the test on numbers
module _ (y z : ℤ) (x : JsValue) (test : ℤ → ℤ → Bool) (rel : Rel) (h : option_map (λ (p : ℤ × ℤ). Boolean (test p.0 p.1)) (if are_alike y z then Some (y, z) else None) ≡ Some x) where
  by_test : rel_of 32 rel (word_of 32 y) (word_of 32 z) ≡ test y z → flag (rel_of 32 rel (word_of 32 y) (word_of 32 z)) ≡ to_uint32_of x
  by_test e = ap flag e ∙ bool_word (test y z) ∙ ap to_uint32_of (taken test y z x h)

signed_test : (test : ℤ → ℤ → Bool) (y z : ℤ) → is_between least (pos (2 ^ 31)) y ≡ true → is_between least (pos (2 ^ 31)) z ≡ true → test (signed_of 32 (word_of 32 y)) (signed_of 32 (word_of 32 z)) ≡ test y z
signed_test test y z f g = ap (λ a. test a (signed_of 32 (word_of 32 z))) (signed_is y f) ∙ ap (test y) (signed_is z g)

signed_compared : (op : JsOp) (rel : Rel) (y z : ℤ) (x : JsValue) → relation_of op false ≡ Some rel → is_between least (pos (2 ^ 31)) y ≡ true → is_between least (pos (2 ^ 31)) z ≡ true
    → js_binary_of op (Whole y) (Whole z) ≡ Some x → flag (rel_of 32 rel (word_of 32 y) (word_of 32 z)) ≡ to_uint32_of x
signed_compared Lt rel y z x is f g h = let e : rels.LtS ≡ rel = cc is in ap (λ rel. flag (rel_of 32 rel (word_of 32 y) (word_of 32 z))) (sym e) ∙ by_test y z x int_lt rels.LtS h (signed_test int_lt y z f g)
signed_compared Le rel y z x is f g h = let e : rels.LeS ≡ rel = cc is in ap (λ rel. flag (rel_of 32 rel (word_of 32 y) (word_of 32 z))) (sym e) ∙ by_test y z x int_le rels.LeS h (signed_test int_le y z f g)
signed_compared Gt rel y z x is f g h = let e : rels.GtS ≡ rel = cc is in ap (λ rel. flag (rel_of 32 rel (word_of 32 y) (word_of 32 z))) (sym e) ∙ by_test y z x (λ a b. int_lt b a) rels.GtS h (signed_test (λ a b. int_lt b a) y z f g)
signed_compared Ge rel y z x is f g h = let e : rels.GeS ≡ rel = cc is in ap (λ rel. flag (rel_of 32 rel (word_of 32 y) (word_of 32 z))) (sym e) ∙ by_test y z x (λ a b. int_le b a) rels.GeS h (signed_test (λ a b. int_le b a) y z f g)
signed_compared Eq rel y z x is f g h = let e : rels.Eq ≡ rel = cc is in ap (λ rel. flag (rel_of 32 rel (word_of 32 y) (word_of 32 z))) (sym e) ∙ by_test y z x (λ a b. is_zero (a -ℤ b)) rels.Eq h (equal_signed y z f g)
signed_compared Ne rel y z x is f g h = let e : rels.Ne ≡ rel = cc is in ap (λ rel. flag (rel_of 32 rel (word_of 32 y) (word_of 32 z))) (sym e) ∙ by_test y z x (λ a b. not (is_zero (a -ℤ b))) rels.Ne h (ap not (equal_signed y z f g))
signed_compared op rel y z x is f g h = absurd (cc is)

unsigned_compared : (op : JsOp) (rel : Rel) (y z : ℤ) (x : JsValue) → relation_of op true ≡ Some rel → is_between (pos 0) (pos (2 ^ 32)) y ≡ true → is_between (pos 0) (pos (2 ^ 32)) z ≡ true
    → js_binary_of op (Whole y) (Whole z) ≡ Some x → flag (rel_of 32 rel (word_of 32 y) (word_of 32 z)) ≡ to_uint32_of x
unsigned_compared Lt rel y z x is f g h = let e : rels.LtU ≡ rel = cc is in ap (λ rel. flag (rel_of 32 rel (word_of 32 y) (word_of 32 z))) (sym e) ∙ by_test y z x int_lt rels.LtU h (less_unsigned y z f g)
unsigned_compared Le rel y z x is f g h = let e : rels.LeU ≡ rel = cc is in ap (λ rel. flag (rel_of 32 rel (word_of 32 y) (word_of 32 z))) (sym e) ∙ by_test y z x int_le rels.LeU h (most_unsigned y z f g)
unsigned_compared Gt rel y z x is f g h = let e : rels.GtU ≡ rel = cc is in ap (λ rel. flag (rel_of 32 rel (word_of 32 y) (word_of 32 z))) (sym e) ∙ by_test y z x (λ a b. int_lt b a) rels.GtU h (less_unsigned z y g f)
unsigned_compared Ge rel y z x is f g h = let e : rels.GeU ≡ rel = cc is in ap (λ rel. flag (rel_of 32 rel (word_of 32 y) (word_of 32 z))) (sym e) ∙ by_test y z x (λ a b. int_le b a) rels.GeU h (most_unsigned z y g f)
unsigned_compared Eq rel y z x is f g h = let e : rels.Eq ≡ rel = cc is in ap (λ rel. flag (rel_of 32 rel (word_of 32 y) (word_of 32 z))) (sym e) ∙ by_test y z x (λ a b. is_zero (a -ℤ b)) rels.Eq h (equal_unsigned y z f g)
unsigned_compared Ne rel y z x is f g h = let e : rels.Ne ≡ rel = cc is in ap (λ rel. flag (rel_of 32 rel (word_of 32 y) (word_of 32 z))) (sym e) ∙ by_test y z x (λ a b. not (is_zero (a -ℤ b))) rels.Ne h (ap not (equal_unsigned y z f g))
unsigned_compared op rel y z x is f g h = absurd (cc is)

pub words_of_comparisons : WordsOfComparisons
words_of_comparisons op true rel (Whole y) (Whole z) x is f g h = unsigned_compared op rel y z x is f g h
words_of_comparisons op false rel (Whole y) (Whole z) x is f g h = signed_compared op rel y z x is f g h
words_of_comparisons op true rel (Whole y) w x is f g h = absurd (cc g)
words_of_comparisons op false rel (Whole y) w x is f g h = absurd (cc g)
words_of_comparisons op true rel v w x is f g h = absurd (cc f)
words_of_comparisons op false rel v w x is f g h = absurd (cc f)

-- ---- conditions

whole_zero : (z : ℤ) → is_between least (pos (2 ^ 32)) z ≡ true → is_zero z ≡ (word_of 32 z == 0)
whole_zero z h = grind (arith, ints, nat_tests)

pub words_of_conditions : WordsOfConditions
words_of_conditions (Whole z) h = ap not (whole_zero z h)
words_of_conditions (Boolean true) h = refl
words_of_conditions (Boolean false) h = refl
words_of_conditions v h = absurd (cc h)

pub words_of_nots : WordsOfNots
words_of_nots (Whole z) x h is = let e : Boolean (is_zero z) ≡ x = cc is in ap flag (sym (whole_zero z h)) ∙ bool_word (is_zero z) ∙ ap to_uint32_of e
words_of_nots (Boolean true) x h is = let e : Boolean false ≡ x = cc is in ap to_uint32_of e
words_of_nots (Boolean false) x h is = let e : Boolean true ≡ x = cc is in ap to_uint32_of e
words_of_nots v x h is = absurd (cc h)

-- Operators whose code is one instruction.
use Rattle.std.proofs.Common.{◌≡◌, ℕ, ◌-◌, ◌%◌, ◌^◌, ◌<◌, Bool, true, false, ◌&&◌, ◌||◌, Option, Some, None, Result, Ok, Err, ℤ, pos, ◌+ℤ◌, ◌-ℤ◌, ◌*ℤ◌, neg_ℤ, unsigned_abs, refl, sym, ap, ◌∙◌, arith}
use Rattle.std.specs.Prelude.{IfOk, if◌then◌else◌, option_and_then, option_map, nat_le}
use Rattle.std.specs.Int.{w32}
use Rattle.std.proofs.lemmas.Bool.Decides.{nat_tests}
use Rattle.std.proofs.lemmas.Int.{ints}
use Rattle.sem_words.specs.declared.word.Bin.{Bin}
use Rattle.sem_words.specs.declared.word.Bin.TheVariants as bins
use Rattle.sem_words.specs.declared.word.Un.TheVariants as uns
use Rattle.sem_words.specs.declared.word.TrapKind.{TrapKind}
use Rattle.sem_words.specs.declared.js_value.JsValue.{JsValue}
use Rattle.sem_words.specs.declared.js_value.JsValue.TheVariants.{Whole, NegZero, Bool as Boolean}
use Rattle.sem_words.specs.declared.js_value.JsOp.TheVariants.{Add, Sub, Mul, Or, And, Xor, Shl, Sar, Shr}
use Rattle.sem_words.specs.JsValues.{to_uint32_of}
use Rattle.sem_words.specs.JsOperators.{is_zero, is_negative, whole_of, wholes_of, exact_of, product_of, negated_of, signed_value, unsigned_value}
use Rattle.sem_words.specs.Words.{word_of, add_of, sub_of, mul_of, bin_of, leading_zeros_of}
use Rattle.sem_words.proofs.WordLaws.{bin_of-IsWord, un_of-le, word_of-add, word_of-sub, word_of-mul, word_of-signed_of_32}
use Rattle.asm_types.proofs.Sound.{to_uint32_lt}
use Rattle.asm2wasm_laws_words.specs.Laws.{WordsOfResults, WordsOfNegations, WordsOfComplements, WordsOfProducts, WordsOfLeadingZeros}

from_some : {A : Type 0} (a b : A) → Some a ≡ Some b → a ≡ b
from_some a b h = cc h

from_bind : {A B : Type 0} (k : A → Option B) (o : Option A) (b : B) → option_and_then k o ≡ Some b → (a : A) × (o ≡ Some a) × (k a ≡ Some b)
from_bind k None b h = absurd (cc h)
from_bind k (Some a) b h = (a, refl, h)

from_map : {A B : Type 0} (k : A → B) (o : Option A) (b : B) → option_map k o ≡ Some b → (a : A) × (o ≡ Some a) × (k a ≡ b)
from_map k None b h = absurd (cc h)
from_map k (Some a) b h = (a, refl, from_some (k a) b h)

-- ---- numbers

pub whole_word : (v : JsValue) (z : ℤ) → whole_of v ≡ Some z → to_uint32_of v ≡ word_of 32 z
whole_word (Whole y) z h = let e : y ≡ z = from_some y z h in ap (word_of 32) e
whole_word (Boolean true) z h = let e : pos 1 ≡ z = from_some (pos 1) z h in ap (word_of 32) e
whole_word (Boolean false) z h = let e : pos 0 ≡ z = from_some (pos 0) z h in ap (word_of 32) e
whole_word v z h = absurd (cc h)

pub record Wholes (v w : JsValue) (p : ℤ × ℤ) : Type 0 where
  pub first : to_uint32_of v ≡ word_of 32 p.0
  pub second : to_uint32_of w ≡ word_of 32 p.1

pub wholes : (v w : JsValue) (p : ℤ × ℤ) → wholes_of v w ≡ Some p → Wholes v w p
wholes v w p h =
    let (x, is_x, rest) = from_bind (λ x. option_map (λ y. (x, y)) (whole_of w)) (whole_of v) p h in
    let (y, is_y, both) = from_map (λ y. (x, y)) (whole_of w) p rest in
    record { first = whole_word v x is_x ∙ ap (λ (p : ℤ × ℤ). word_of 32 p.0) both; second = whole_word w y is_y ∙ ap (λ (p : ℤ × ℤ). word_of 32 p.1) both }

exact_word : (z : ℤ) (x : JsValue) → exact_of z ≡ Some x → word_of 32 z ≡ to_uint32_of x
exact_word z x h = by (nat_le (unsigned_abs z) (2 ^ 53)) h
  where
    by : (b : Bool) → (if b then Some (Whole z) else None) ≡ Some x → word_of 32 z ≡ to_uint32_of x
    by true h = ap to_uint32_of (from_some (Whole z) x h)
    by false h = absurd (cc h)

pub zero_word : (z : ℤ) → is_zero z ≡ true → word_of 32 z ≡ 0
zero_word z h = grind (arith, ints, nat_tests)

product_word : (y z : ℤ) (x : JsValue) → product_of y z ≡ Some x → word_of 32 (y *ℤ z) ≡ to_uint32_of x
product_word y z x h = by (is_zero (y *ℤ z)) (is_negative y || is_negative z) refl h
  where
    by : (zero negative : Bool) → is_zero (y *ℤ z) ≡ zero → (if zero && negative then Some NegZero else exact_of (y *ℤ z)) ≡ Some x → word_of 32 (y *ℤ z) ≡ to_uint32_of x
    by true true is h = zero_word (y *ℤ z) is ∙ ap to_uint32_of (from_some NegZero x h)
    by true false is h = exact_word (y *ℤ z) x h
    by false negative is h = exact_word (y *ℤ z) x h

-- ---- words

below : (bin : Bin) (v w : JsValue) (n : ℕ) → bin_of 32 bin (to_uint32_of v) (to_uint32_of w) ≡ Ok n → n < 2 ^ 32
below bin v w n h = taken (bin_of 32 bin (to_uint32_of v) (to_uint32_of w)) h (bin_of-IsWord 32 bin (to_uint32_of v) (to_uint32_of w) (omega arith) (to_uint32_lt v) (to_uint32_lt w))
  where
    taken : (r : Result ℕ TrapKind) → r ≡ Ok n → IfOk r (λ r. r < 2 ^ 32) → n < 2 ^ 32
    taken (Ok k) e small = let same : k ≡ n = cc e in omega (arith, same, small)
    taken (Err t) e small = absurd (cc e)

-- an operator that gives a word as a signed number, and as an unsigned one
as_signed : (bin : Bin) (v w x : JsValue) (n : ℕ) → bin_of 32 bin (to_uint32_of v) (to_uint32_of w) ≡ Ok n → Some (signed_value n) ≡ Some x → bin_of 32 bin (to_uint32_of v) (to_uint32_of w) ≡ Ok (to_uint32_of x)
as_signed bin v w x n is h =
    let number : n ≡ to_uint32_of x = sym (word_of-signed_of_32 n (below bin v w n is)) ∙ ap to_uint32_of (from_some (signed_value n) x h) in
    is ∙ ap (λ n. Ok n) number

as_unsigned : (bin : Bin) (v w x : JsValue) (n : ℕ) → bin_of 32 bin (to_uint32_of v) (to_uint32_of w) ≡ Ok n → Some (unsigned_value n) ≡ Some x → bin_of 32 bin (to_uint32_of v) (to_uint32_of w) ≡ Ok (to_uint32_of x)
as_unsigned bin v w x n is h =
    let small = below bin v w n is in
    let plain : n ≡ n % 2 ^ 32 = omega (arith, small) in
    let number : n ≡ to_uint32_of x = plain ∙ ap to_uint32_of (from_some (unsigned_value n) x h) in
    is ∙ ap (λ n. Ok n) number

-- ---- the operators

pub words_of_results : WordsOfResults
words_of_results Add bin v w x is h =
    let b : bins.Add ≡ bin = from_some bins.Add bin is in
    let (p, both, exact) = from_bind (λ (p : ℤ × ℤ). exact_of (p.0 +ℤ p.1)) (wholes_of v w) x h in
    let ws = wholes v w p both in
    ap (λ bin. bin_of 32 bin (to_uint32_of v) (to_uint32_of w)) (sym b)
    ∙ ap (λ n. Ok n) (ap (λ a. add_of 32 a (to_uint32_of w)) ws.first ∙ ap (add_of 32 (word_of 32 p.0)) ws.second ∙ sym (word_of-add w32 p.0 p.1) ∙ exact_word (p.0 +ℤ p.1) x exact)
words_of_results Sub bin v w x is h =
    let b : bins.Sub ≡ bin = from_some bins.Sub bin is in
    let (p, both, exact) = from_bind (λ (p : ℤ × ℤ). exact_of (p.0 -ℤ p.1)) (wholes_of v w) x h in
    let ws = wholes v w p both in
    ap (λ bin. bin_of 32 bin (to_uint32_of v) (to_uint32_of w)) (sym b)
    ∙ ap (λ n. Ok n) (ap (λ a. sub_of 32 a (to_uint32_of w)) ws.first ∙ ap (sub_of 32 (word_of 32 p.0)) ws.second ∙ sym (word_of-sub w32 p.0 p.1) ∙ exact_word (p.0 -ℤ p.1) x exact)
words_of_results Mul bin v w x is h =
    let b : bins.Mul ≡ bin = from_some bins.Mul bin is in
    let (p, both, product) = from_bind (λ (p : ℤ × ℤ). product_of p.0 p.1) (wholes_of v w) x h in
    let ws = wholes v w p both in
    ap (λ bin. bin_of 32 bin (to_uint32_of v) (to_uint32_of w)) (sym b)
    ∙ ap (λ n. Ok n) (ap (λ a. mul_of 32 a (to_uint32_of w)) ws.first ∙ ap (mul_of 32 (word_of 32 p.0)) ws.second ∙ sym (word_of-mul w32 p.0 p.1) ∙ product_word p.0 p.1 x product)
words_of_results Or bin v w x is h = ap (λ bin. bin_of 32 bin (to_uint32_of v) (to_uint32_of w)) (sym (from_some bins.Or bin is)) ∙ as_signed bins.Or v w x _ refl h
words_of_results And bin v w x is h = ap (λ bin. bin_of 32 bin (to_uint32_of v) (to_uint32_of w)) (sym (from_some bins.And bin is)) ∙ as_signed bins.And v w x _ refl h
words_of_results Xor bin v w x is h = ap (λ bin. bin_of 32 bin (to_uint32_of v) (to_uint32_of w)) (sym (from_some bins.Xor bin is)) ∙ as_signed bins.Xor v w x _ refl h
words_of_results Shl bin v w x is h = ap (λ bin. bin_of 32 bin (to_uint32_of v) (to_uint32_of w)) (sym (from_some bins.Shl bin is)) ∙ as_signed bins.Shl v w x _ refl h
words_of_results Sar bin v w x is h =
    ap (λ bin. bin_of 32 bin (to_uint32_of v) (to_uint32_of w)) (sym (from_some bins.ShrS bin is)) ∙ ap (λ (o : Option JsValue). Ok (word_in o)) h
  where
    word_in : Option JsValue → ℕ
    word_in None = 0
    word_in (Some x) = to_uint32_of x
words_of_results Shr bin v w x is h = ap (λ bin. bin_of 32 bin (to_uint32_of v) (to_uint32_of w)) (sym (from_some bins.ShrU bin is)) ∙ as_unsigned bins.ShrU v w x _ refl h
words_of_results op bin v w x is h = absurd (cc is)

-- ---- of one operand

negated_word : (z : ℤ) → sub_of 32 0 (word_of 32 z) ≡ to_uint32_of (negated_of z)
negated_word z = by (is_zero z) refl
  where
    by : (zero : Bool) → is_zero z ≡ zero → sub_of 32 0 (word_of 32 z) ≡ to_uint32_of (if zero then NegZero else Whole (neg_ℤ z))
    by true is = let e = zero_word z is in ap (sub_of 32 0) e
    by false is = let e = word_of-sub w32 (pos 0) z in let n : pos 0 -ℤ z ≡ neg_ℤ z = omega (arith, ints) in sym e ∙ ap (word_of 32) n

pub words_of_negations : WordsOfNegations
words_of_negations v x h =
    let (z, is, e) = from_map negated_of (whole_of v) x h in
    ap (sub_of 32 0) (whole_word v z is) ∙ negated_word z ∙ ap to_uint32_of e

pub words_of_complements : WordsOfComplements
words_of_complements v x h =
    let small = to_uint32_lt v in
    let n = 2 ^ 32 - 1 - to_uint32_of v in
    let word : n < 2 ^ 32 = omega arith in
    let e : sub_of 32 (2 ^ 32 - 1) (to_uint32_of v) ≡ n = omega (arith, small) in
    e ∙ sym (word_of-signed_of_32 n word) ∙ ap to_uint32_of (from_some (signed_value n) x h)

pub words_of_products : WordsOfProducts
words_of_products v w x h =
    let (p, both, e) = from_map (λ _. signed_value (mul_of 32 (to_uint32_of v) (to_uint32_of w))) (wholes_of v w) x h in
    let n = mul_of 32 (to_uint32_of v) (to_uint32_of w) in
    sym (word_of-signed_of_32 n (below bins.Mul v w n refl)) ∙ ap to_uint32_of e

pub words_of_leading_zeros : WordsOfLeadingZeros
words_of_leading_zeros v x h =
    let (z, is, e) = from_map (λ _. unsigned_value (leading_zeros_of 32 (to_uint32_of v))) (whole_of v) x h in
    let few = un_of-le 32 uns.Clz (to_uint32_of v) (to_uint32_lt v) in
    let plain : leading_zeros_of 32 (to_uint32_of v) ≡ leading_zeros_of 32 (to_uint32_of v) % 2 ^ 32 = omega (arith, few) in
    plain ∙ ap to_uint32_of e

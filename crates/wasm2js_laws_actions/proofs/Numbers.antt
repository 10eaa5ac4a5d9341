-- Operators of asm.js on values give the operators of words on the values' words.
use Rattle.std.proofs.Common.{◌≡◌, ℕ, ◌-◌, ◌/◌, ◌%◌, ◌^◌, ◌<◌, ◌≤◌, Bool, true, false, not, Option, Some, None, ℤ, pos, ◌+ℤ◌, ◌-ℤ◌, unsigned_abs, refl, sym, ap, ◌∙◌, arith}
use Rattle.std.specs.Prelude.{IfOk, if◌then◌else◌, option_and_then, option_map, nat_le, nat_lt, int_lt, int_le, ◌==◌}
use Rattle.std.specs.Int.{w32}
use Rattle.std.proofs.lemmas.Bool.Decides.{nat_tests}
use Rattle.std.proofs.lemmas.Int.{ints}
use Rattle.sem_words.specs.declared.word.Bin.{Bin}
use Rattle.sem_words.specs.declared.word.Bin.TheVariants as bins
use Rattle.sem_words.specs.declared.word.Un.TheVariants as uns
use Rattle.sem_words.specs.declared.js_value.JsValue.{JsValue}
use Rattle.sem_words.specs.declared.js_value.JsValue.TheVariants.{Whole, Bool as Boolean}
use Rattle.sem_words.specs.JsValues.{to_uint32_of, truthy_of}
use Rattle.sem_words.specs.JsOperators.{is_zero, whole_of, wholes_of, exact_of, are_alike, signed_value, unsigned_value, js_binary_of, js_imul_of, js_clz32_of}
use Rattle.sem_words.specs.Words.{word_of, signed_of, add_of, sub_of, mul_of, bin_of, rel_of, leading_zeros_of}
use Rattle.sem_words.proofs.WordLaws.{bin_of-IsWord, un_of-le, word_of-add, word_of-sub, word_of-signed_of_32}
use Rattle.asm_types.proofs.Sound.{to_uint32_lt}
use Rattle.asm_lang_exec.specs.Runs.{Place, defined}
use Rattle.asm_lang_exec.specs.Meaning.{link_operator}
use Rattle.wasm2js_translation.specs.Words.{BitOp, conjunction, disjunction, exclusion, shift_left, shift_right_signed, shift_right, Relation, equal, unequal, less, at_most, greater, at_least, bit_operator, relation_operator}
use Rattle.wasm2js_laws_places.specs.Straight.{bits_of, relation_of, truth, added}
use Rattle.wasm2js_laws_actions.specs.Reads.{Reads, Finds}

-- ---- words of 32 bits

pub same_word : (n : ℕ) → n < 2 ^ 32 → n % 2 ^ 32 ≡ n
same_word n h = omega (arith, h)

pub small : (bin : Bin) (v w : JsValue) → IfOk (bin_of 32 bin (to_uint32_of v) (to_uint32_of w)) (λ r. r < 2 ^ 32)
small bin v w = bin_of-IsWord 32 bin (to_uint32_of v) (to_uint32_of w) (omega arith) (to_uint32_lt v) (to_uint32_lt w)

-- ---- bits

pub bits_read : (op : BitOp) (v w : JsValue) (p : Place) → Reads (bits_of op (to_uint32_of v) (to_uint32_of w)) p (defined (js_binary_of (bit_operator op) v w) p)
bits_read conjunction v w p = (refl, word_of-signed_of_32 _ (small bins.And v w))
bits_read disjunction v w p = (refl, word_of-signed_of_32 _ (small bins.Or v w))
bits_read exclusion v w p = (refl, word_of-signed_of_32 _ (small bins.Xor v w))
bits_read shift_left v w p = (refl, word_of-signed_of_32 _ (small bins.Shl v w))
bits_read shift_right_signed v w p = (refl, refl)
bits_read shift_right v w p = (refl, same_word _ (small bins.ShrU v w))

-- ---- sums

from_some : {A : Type 0} (a b : A) → Some a ≡ Some b → a ≡ b
from_some a b h = cc h

from_bind : {A B : Type 0} (k : A → Option B) (o : Option A) (b : B) → option_and_then k o ≡ Some b → (a : A) × (o ≡ Some a) × (k a ≡ Some b)
from_bind k None b h = absurd (cc h)
from_bind k (Some a) b h = (a, refl, h)

from_map : {A B : Type 0} (k : A → B) (o : Option A) (b : B) → option_map k o ≡ Some b → (a : A) × (o ≡ Some a) × (k a ≡ b)
from_map k None b h = absurd (cc h)
from_map k (Some a) b h = (a, refl, from_some (k a) b h)

whole_word : (v : JsValue) (z : ℤ) → whole_of v ≡ Some z → to_uint32_of v ≡ word_of 32 z
whole_word (Whole y) z h = let e : y ≡ z = from_some y z h in ap (word_of 32) e
whole_word (Boolean true) z h = let e : pos 1 ≡ z = from_some (pos 1) z h in ap (word_of 32) e
whole_word (Boolean false) z h = let e : pos 0 ≡ z = from_some (pos 0) z h in ap (word_of 32) e
whole_word v z h = absurd (cc h)

record Wholes (v w : JsValue) (p : ℤ × ℤ) : Type 0 where
  first : to_uint32_of v ≡ word_of 32 p.0
  second : to_uint32_of w ≡ word_of 32 p.1

wholes : (v w : JsValue) (p : ℤ × ℤ) → wholes_of v w ≡ Some p → Wholes v w p
wholes v w p h =
    let (x, is_x, rest) = from_bind (λ x. option_map (λ y. (x, y)) (whole_of w)) (whole_of v) p h in
    let (y, is_y, both) = from_map (λ y. (x, y)) (whole_of w) p rest in
    record { first = whole_word v x is_x ∙ ap (λ (p : ℤ × ℤ). word_of 32 p.0) both; second = whole_word w y is_y ∙ ap (λ (p : ℤ × ℤ). word_of 32 p.1) both }

exact_word : (z : ℤ) (x : JsValue) → exact_of z ≡ Some x → word_of 32 z ≡ to_uint32_of x
exact_word z x h = by (nat_le (unsigned_abs z) (2 ^ 53)) h
  where
    by : (b : Bool) → (if b then Some (Whole z) else None) ≡ Some x → word_of 32 z ≡ to_uint32_of x
    by true h = ap to_uint32_of (from_some (Whole z) x h)
    by false h = absurd (cc h)

linked : (minus : Bool) (v w x : JsValue) → js_binary_of (link_operator minus) v w ≡ Some x → to_uint32_of x ≡ added minus (to_uint32_of v) (to_uint32_of w)
linked false v w x h =
    let (p, both, exact) = from_bind (λ (p : ℤ × ℤ). exact_of (p.0 +ℤ p.1)) (wholes_of v w) x h in
    let ws = wholes v w p both in
    sym (ap (λ a. add_of 32 a (to_uint32_of w)) ws.first ∙ ap (add_of 32 (word_of 32 p.0)) ws.second ∙ sym (word_of-add w32 p.0 p.1) ∙ exact_word (p.0 +ℤ p.1) x exact)
linked true v w x h =
    let (p, both, exact) = from_bind (λ (p : ℤ × ℤ). exact_of (p.0 -ℤ p.1)) (wholes_of v w) x h in
    let ws = wholes v w p both in
    sym (ap (λ a. sub_of 32 a (to_uint32_of w)) ws.first ∙ ap (sub_of 32 (word_of 32 p.0)) ws.second ∙ sym (word_of-sub w32 p.0 p.1) ∙ exact_word (p.0 -ℤ p.1) x exact)

found_read : (o : Option JsValue) (p : Place) (n : ℕ) → ((x : JsValue) → o ≡ Some x → to_uint32_of x ≡ n) → Reads n p (defined o p)
found_read None p n f = tt
found_read (Some x) p n f = (refl, f x refl)

pub links_read : (minus : Bool) (v w : JsValue) (p : Place) → Reads (added minus (to_uint32_of v) (to_uint32_of w)) p (defined (js_binary_of (link_operator minus) v w) p)
links_read minus v w p = found_read (js_binary_of (link_operator minus) v w) p _ (linked minus v w)

-- ---- the standard library

pub product_read : (v w : JsValue) (p : Place) → Reads (mul_of 32 (to_uint32_of v) (to_uint32_of w)) p (defined (js_imul_of v w) p)
product_read v w p = by (wholes_of v w)
  where
    by : (o : Option (ℤ × ℤ)) → Reads (mul_of 32 (to_uint32_of v) (to_uint32_of w)) p (defined (option_map (λ _. signed_value (mul_of 32 (to_uint32_of v) (to_uint32_of w))) o) p)
    by None = tt
    by (Some z) = (refl, word_of-signed_of_32 _ (small bins.Mul v w))

pub few_zeros : (a : ℕ) → a < 2 ^ 32 → leading_zeros_of 32 a ≤ 32
few_zeros a h = un_of-le 32 uns.Clz a h

pub zeros_read : (v : JsValue) (p : Place) → Reads (leading_zeros_of 32 (to_uint32_of v)) p (defined (js_clz32_of v) p)
zeros_read v p = by (whole_of v)
  where
    by : (o : Option ℤ) → Reads (leading_zeros_of 32 (to_uint32_of v)) p (defined (option_map (λ _. unsigned_value (leading_zeros_of 32 (to_uint32_of v))) o) p)
    by None = tt
    by (Some z) = (refl, let few = few_zeros (to_uint32_of v) (to_uint32_lt v) in same_word (leading_zeros_of 32 (to_uint32_of v)) (omega (arith, few)))

pub flipped : (a : ℕ) → a < 2 ^ 32 → word_of 32 (signed_of 32 (2 ^ 32 - 1 - a)) ≡ 2 ^ 32 - 1 - a
flipped a h = word_of-signed_of_32 (2 ^ 32 - 1 - a) (omega (arith, h))

-- ---- comparisons

abbrev pub number_value : Bool → ℕ → JsValue
number_value true x = signed_value x
number_value false x = unsigned_value x

bool_word : (b : Bool) → to_uint32_of (Boolean b) ≡ truth b
bool_word true = refl
bool_word false = refl

tested : (test : ℤ → ℤ → Bool) (y z : ℤ) (p : Place) (b : Bool) → test y z ≡ b
    → Reads (truth b) p (defined (option_map (λ (p : ℤ × ℤ). Boolean (test p.0 p.1)) (if are_alike y z then Some (y, z) else None)) p)
tested test y z p b e = by (are_alike y z)
  where
    by : (alike : Bool) → Reads (truth b) p (defined (option_map (λ (p : ℤ × ℤ). Boolean (test p.0 p.1)) (if alike then Some (y, z) else None)) p)
    by true = (refl, bool_word (test y z) ∙ ap truth e)
    by false = tt

equal_signed : (x y : ℕ) → x < 2 ^ 32 → y < 2 ^ 32 → is_zero (signed_of 32 x -ℤ signed_of 32 y) ≡ (x == y)
equal_signed x y f g = grind (arith, ints, nat_tests)

equal_plain : (x y : ℕ) → is_zero (pos x -ℤ pos y) ≡ (x == y)
equal_plain x y = grind (arith, ints, nat_tests)

less_plain : (x y : ℕ) → int_lt (pos x) (pos y) ≡ nat_lt x y
less_plain x y = grind (arith, ints, nat_tests)

most_plain : (x y : ℕ) → int_le (pos x) (pos y) ≡ nat_le x y
most_plain x y = grind (arith, ints, nat_tests)

pub compared_read : (signed : Bool) (r : Relation) (x y : ℕ) (p : Place) → x < 2 ^ 32 → y < 2 ^ 32
    → Reads (truth (rel_of 32 (relation_of signed r) x y)) p (defined (js_binary_of (relation_operator r) (number_value signed x) (number_value signed y)) p)
compared_read true equal x y p f g = tested (λ a b. is_zero (a -ℤ b)) (signed_of 32 x) (signed_of 32 y) p (x == y) (equal_signed x y f g)
compared_read false equal x y p f g = tested (λ a b. is_zero (a -ℤ b)) (pos x) (pos y) p (x == y) (equal_plain x y)
compared_read true unequal x y p f g = tested (λ a b. not (is_zero (a -ℤ b))) (signed_of 32 x) (signed_of 32 y) p (not (x == y)) (ap not (equal_signed x y f g))
compared_read false unequal x y p f g = tested (λ a b. not (is_zero (a -ℤ b))) (pos x) (pos y) p (not (x == y)) (ap not (equal_plain x y))
compared_read true less x y p f g = tested int_lt (signed_of 32 x) (signed_of 32 y) p _ refl
compared_read false less x y p f g = tested int_lt (pos x) (pos y) p (nat_lt x y) (less_plain x y)
compared_read true at_most x y p f g = tested int_le (signed_of 32 x) (signed_of 32 y) p _ refl
compared_read false at_most x y p f g = tested int_le (pos x) (pos y) p (nat_le x y) (most_plain x y)
compared_read true greater x y p f g = tested (λ a b. int_lt b a) (signed_of 32 x) (signed_of 32 y) p _ refl
compared_read false greater x y p f g = tested (λ a b. int_lt b a) (pos x) (pos y) p (nat_lt y x) (less_plain y x)
compared_read true at_least x y p f g = tested (λ a b. int_le b a) (signed_of 32 x) (signed_of 32 y) p _ refl
compared_read false at_least x y p f g = tested (λ a b. int_le b a) (pos x) (pos y) p (nat_le y x) (most_plain y x)

-- whether a word is above a bound, as the value itself
pub bound_found : (x y : ℕ) (p : Place) → Finds (Boolean (nat_lt y x)) p (defined (option_map (λ (p : ℤ × ℤ). Boolean (int_lt p.1 p.0)) (if are_alike (pos x) (pos y) then Some (pos x, pos y) else None)) p)
bound_found x y p = by (are_alike (pos x) (pos y))
  where
    by : (alike : Bool) → Finds (Boolean (nat_lt y x)) p (defined (option_map (λ (p : ℤ × ℤ). Boolean (int_lt p.1 p.0)) (if alike then Some (pos x, pos y) else None)) p)
    by true = (refl, ap Boolean (less_plain y x))
    by false = tt

pub is_true : (x : ℕ) → x < 2 ^ 32 → truthy_of (signed_value x) ≡ not (x == 0)
is_true x h = grind (arith, ints, nat_tests)

pub whole_quotient : (n : ℕ) → n / 1 ≡ n
whole_quotient n = omega arith

-- Quotients and remainders.
use Rattle.std.proofs.Common.{◌≡◌, ℕ, zero, suc, ◌-◌, ◌*◌, ◌/◌, ◌%◌, ◌^◌, ◌<◌, Bool, true, false, ◌&&◌, Some, None, Ok, Err, ℤ, pos, negsuc, ◌*ℤ◌, neg_ℤ, refl, sym, ap, ◌∙◌, subst, arith, true≢false}
use Rattle.std.specs.Prelude.{if◌then◌else◌, option_map, ◌==◌, nat_lt, int_div, int_rem}
use Rattle.std.specs.Int.{w32}
use Rattle.std.proofs.lemmas.Bool.Decides.{nat_tests}
use Rattle.std.proofs.lemmas.Int.{ints}
use Rattle.std.proofs.Math.Nat.{zero-div, div-le_self, mod-le}
use Rattle.sem_words.specs.declared.word.Bin.TheVariants as bins
use Rattle.sem_words.specs.declared.word.TrapKind.TheVariants.{ZeroDivisor, Overflow}
use Rattle.sem_words.specs.declared.js_value.JsValue.{JsValue}
use Rattle.sem_words.specs.declared.js_value.JsValue.TheVariants.{Whole, Frac, NegZero, NaN, PosInf, NegInf}
use Rattle.sem_words.specs.JsValues.{to_uint32_of}
use Rattle.sem_words.specs.JsOperators.{is_zero, is_negative, are_alike, by_zero_of, quotient_of, remainder_of}
use Rattle.sem_words.specs.Words.{word_of, signed_of, add_of, div_s_of, bin_of}
use Rattle.sem_words.proofs.WordLaws.{word_of-mul}
use Rattle.asm_types.specs.Values.{is_between, least}
use Rattle.asm2wasm_laws_words.specs.Laws.{signed_quotient, guarded, SignedQuotients, UnsignedQuotients, SignedRemainders, UnsignedRemainders}
use Rattle.asm2wasm_laws_words.proofs.Operated.{zero_word}
use Rattle.asm2wasm_laws_words.proofs.Compared.{signed_is}

abbrev IsSigned : ℤ → Type 0
IsSigned z = is_between least (pos (2 ^ 31)) z ≡ true

abbrev IsUnsigned : ℤ → Type 0
IsUnsigned z = is_between (pos 0) (pos (2 ^ 32)) z ≡ true

taken : (f : ℤ → ℤ → JsValue) (y z : ℤ) (x : JsValue) → option_map (λ (p : ℤ × ℤ). f p.0 p.1) (if are_alike y z then Some (y, z) else None) ≡ Some x → f y z ≡ x
taken f y z x h = by (are_alike y z) h
  where
    by : (b : Bool) → option_map (λ (p : ℤ × ℤ). f p.0 p.1) (if b then Some (y, z) else None) ≡ Some x → f y z ≡ x
    by true h = cc h
    by false h = absurd (cc h)

-- ---- tests

suc_is_not_zero : (n : ℕ) → (suc n == 0) ≡ false
suc_is_not_zero n = grind (arith, nat_tests)

is_not_below : (n : ℕ) → is_negative (pos n) ≡ false
is_not_below n = grind (arith, ints, nat_tests)

-- ---- values

by_zero_word : (y : ℤ) → 0 ≡ to_uint32_of (by_zero_of y)
by_zero_word y = by (is_zero y) (is_negative y)
  where
    by : (zero negative : Bool) → 0 ≡ to_uint32_of (if zero then NaN else (if negative then NegInf else PosInf))
    by true negative = refl
    by false true = refl
    by false false = refl

-- the word of a quotient by such a divisor is that of its whole part
record Divides (z : ℤ) : Type 0 where
  not_zero : is_zero z ≡ false
  none : (y : ℤ) → is_zero y ≡ true → 0 ≡ word_of 32 (int_div y z)
  fraction : (y : ℤ) → to_uint32_of (if is_negative z then Frac (neg_ℤ y) (neg_ℤ z) else Frac y z) ≡ word_of 32 (int_div y z)

turned : (y : ℤ) (b : ℕ) → int_div (neg_ℤ y) (pos (suc b)) ≡ int_div y (negsuc b)
turned (pos zero) b = let e = zero-div (suc b) in ap pos e ∙ ap (λ (n : ℕ). neg_ℤ (pos n)) (sym e)
turned (pos (suc a)) b = refl
turned (negsuc a) b = refl

none_above : (b : ℕ) (y : ℤ) → is_zero y ≡ true → 0 ≡ word_of 32 (int_div y (pos (suc b)))
none_above b (pos zero) h = ap (λ (n : ℕ). n % 2 ^ 32) (sym (zero-div (suc b)))
none_above b (pos (suc a)) h = absurd (true≢false (sym h ∙ suc_is_not_zero a))
none_above b (negsuc a) h = absurd (true≢false (sym h ∙ suc_is_not_zero a))

none_below : (b : ℕ) (y : ℤ) → is_zero y ≡ true → 0 ≡ word_of 32 (int_div y (negsuc b))
none_below b (pos zero) h = ap (λ (n : ℕ). word_of 32 (neg_ℤ (pos n))) (sym (zero-div (suc b)))
none_below b (pos (suc a)) h = absurd (true≢false (sym h ∙ suc_is_not_zero a))
none_below b (negsuc a) h = absurd (true≢false (sym h ∙ suc_is_not_zero a))

by_positive : (b : ℕ) → Divides (pos (suc b))
by_positive b = record {
  not_zero = suc_is_not_zero b;
  none = none_above b;
  fraction = λ y. ap (λ t. to_uint32_of (if t then Frac (neg_ℤ y) (neg_ℤ (pos (suc b))) else Frac y (pos (suc b)))) (is_not_below (suc b));
}

by_negative : (b : ℕ) → Divides (negsuc b)
by_negative b = record { not_zero = suc_is_not_zero b; none = none_below b; fraction = λ y. ap (word_of 32) (turned y b) }

quotient_word : (y z : ℤ) → Divides z → word_of 32 (int_div y z) ≡ to_uint32_of (quotient_of y z)
quotient_word y z d =
    by (is_zero (int_rem y z)) (is_zero y) (is_negative z) refl refl
    ∙ ap (λ b. to_uint32_of (if b then by_zero_of y else (if is_zero (int_rem y z) then (if is_zero y && is_negative z then NegZero else Whole (int_div y z)) else (if is_negative z then Frac (neg_ℤ y) (neg_ℤ z) else Frac y z)))) (sym d.not_zero)
  where
    by : (whole zero negative : Bool) → is_zero y ≡ zero → is_negative z ≡ negative
        → word_of 32 (int_div y z) ≡ to_uint32_of (if whole then (if zero && negative then NegZero else Whole (int_div y z)) else (if negative then Frac (neg_ℤ y) (neg_ℤ z) else Frac y z))
    by true true true is n = sym (d.none y is)
    by true true false is n = refl
    by true false negative is n = refl
    by false other negative is n = sym (d.fraction y) ∙ ap (λ b. to_uint32_of (if b then Frac (neg_ℤ y) (neg_ℤ z) else Frac y z)) n

remainder_word : (y z : ℤ) → is_zero z ≡ false → word_of 32 (int_rem y z) ≡ to_uint32_of (remainder_of y z)
remainder_word y z h =
    by (is_zero (int_rem y z)) (is_negative y) refl
    ∙ ap (λ b. to_uint32_of (if b then NaN else (if is_zero (int_rem y z) && is_negative y then NegZero else Whole (int_rem y z)))) (sym h)
  where
    by : (zero negative : Bool) → is_zero (int_rem y z) ≡ zero → word_of 32 (int_rem y z) ≡ to_uint32_of (if zero && negative then NegZero else Whole (int_rem y z))
    by true true is = zero_word (int_rem y z) is
    by true false is = refl
    by false negative is = refl

-- ---- signed

div_s_is : (a b : ℕ) → (b == 0) ≡ false → (b == 2 ^ 32 - 1) ≡ false → div_s_of 32 a b ≡ Ok (word_of 32 (int_div (signed_of 32 a) (signed_of 32 b)))
div_s_is a b some minus_one =
    ap (λ t. if t then Err ZeroDivisor else (if (a == 2 ^ 31) && (b == 2 ^ 32 - 1) then Err Overflow else Ok (word_of 32 (int_div (signed_of 32 a) (signed_of 32 b))))) some
    ∙ ap (λ t. if (a == 2 ^ 31) && t then Err Overflow else Ok (word_of 32 (int_div (signed_of 32 a) (signed_of 32 b)))) minus_one
    ∙ by (a == 2 ^ 31)
  where
    by : (t : Bool) → (if t && false then Err Overflow else Ok (word_of 32 (int_div (signed_of 32 a) (signed_of 32 b)))) ≡ Ok (word_of 32 (int_div (signed_of 32 a) (signed_of 32 b)))
    by true = refl
    by false = refl

-- a divisor that is neither 0 nor -1
record Passes (z : ℤ) : Type 0 where
  not_zero : (word_of 32 z == 0) ≡ false
  not_minus_one : (word_of 32 z == 2 ^ 32 - 1) ≡ false
  goes : nat_lt 1 (add_of 32 (word_of 32 z) 1) ≡ true

passes_above : (b : ℕ) → IsSigned (pos (suc b)) → Passes (pos (suc b))
passes_above b h = record { not_zero = grind (arith, ints, nat_tests); not_minus_one = grind (arith, ints, nat_tests); goes = grind (arith, ints, nat_tests) }

passes_below : (b : ℕ) → IsSigned (negsuc (suc b)) → Passes (negsuc (suc b))
passes_below b h = record { not_zero = grind (arith, ints, nat_tests); not_minus_one = grind (arith, ints, nat_tests); goes = grind (arith, ints, nat_tests) }

signed_passed : (y z : ℤ) → IsSigned y → IsSigned z → Passes z → Divides z → signed_quotient (word_of 32 y) (word_of 32 z) ≡ Ok (to_uint32_of (quotient_of y z))
signed_passed y z f g p d =
    ap (λ t. if t then bin_of 32 bins.DivS (word_of 32 y) (word_of 32 z) else bin_of 32 bins.Mul (word_of 32 y) (word_of 32 z)) p.goes
    ∙ div_s_is (word_of 32 y) (word_of 32 z) p.not_zero p.not_minus_one
    ∙ ap (λ a. Ok (word_of 32 (int_div a (signed_of 32 (word_of 32 z))))) (signed_is y f)
    ∙ ap (λ b. Ok (word_of 32 (int_div y b))) (signed_is z g)
    ∙ ap (λ n. Ok n) (quotient_word y z d)

minus_one : (y : ℤ) → y *ℤ negsuc 0 ≡ int_div y (negsuc 0)
minus_one (pos n) = let e : n / 1 ≡ n = omega arith in let m : pos n *ℤ negsuc 0 ≡ neg_ℤ (pos n) = omega (arith, ints) in m ∙ ap (λ (n : ℕ). neg_ℤ (pos n)) (sym e)
minus_one (negsuc n) = let e : suc n / 1 ≡ suc n = omega arith in let m : negsuc n *ℤ negsuc 0 ≡ pos (suc n) = omega (arith, ints) in m ∙ ap pos (sym e)

signed_divided : (y z : ℤ) → IsSigned y → IsSigned z → signed_quotient (word_of 32 y) (word_of 32 z) ≡ Ok (to_uint32_of (quotient_of y z))
signed_divided y (pos zero) f g = let e : word_of 32 y * 0 % 2 ^ 32 ≡ 0 = omega arith in ap (λ n. Ok n) (e ∙ by_zero_word y)
signed_divided y (pos (suc b)) f g = signed_passed y (pos (suc b)) f g (passes_above b g) (by_positive b)
signed_divided y (negsuc zero) f g = ap (λ n. Ok n) (sym (word_of-mul w32 y (negsuc 0)) ∙ ap (word_of 32) (minus_one y) ∙ quotient_word y (negsuc 0) (by_negative 0))
signed_divided y (negsuc (suc b)) f g = signed_passed y (negsuc (suc b)) f g (passes_below b g) (by_negative (suc b))

word_not_zero : (z : ℤ) → IsSigned z → is_zero z ≡ false → (word_of 32 z == 0) ≡ false
word_not_zero z g h = grind (arith, ints, nat_tests)

signed_rest : (y z : ℤ) → IsSigned y → IsSigned z → guarded bins.RemS (word_of 32 y) (word_of 32 z) ≡ Ok (to_uint32_of (remainder_of y z))
signed_rest y z f g = by z g (is_zero z) refl
  where
    zeros : (z : ℤ) → is_zero z ≡ true → z ≡ pos 0
    zeros (pos zero) h = refl
    zeros (pos (suc n)) h = absurd (true≢false (sym h ∙ suc_is_not_zero n))
    zeros (negsuc n) h = absurd (true≢false (sym h ∙ suc_is_not_zero n))

    by : (z : ℤ) → IsSigned z → (zero : Bool) → is_zero z ≡ zero → guarded bins.RemS (word_of 32 y) (word_of 32 z) ≡ Ok (to_uint32_of (remainder_of y z))
    by z g true is = subst (λ z. guarded bins.RemS (word_of 32 y) (word_of 32 z) ≡ Ok (to_uint32_of (remainder_of y z))) (sym (zeros z is)) refl
    by z g false is =
        let n = word_not_zero z g is in
        ap (λ t. if t then Ok 0 else (if t then Err ZeroDivisor else Ok (word_of 32 (int_rem (signed_of 32 (word_of 32 y)) (signed_of 32 (word_of 32 z)))))) n
        ∙ ap (λ a. Ok (word_of 32 (int_rem a (signed_of 32 (word_of 32 z))))) (signed_is y f)
        ∙ ap (λ b. Ok (word_of 32 (int_rem y b))) (signed_is z g)
        ∙ ap (λ n. Ok n) (remainder_word y z is)

-- ---- unsigned

small : (i : ℕ) → IsUnsigned (pos i) → i < 2 ^ 32
small i h = grind (arith, ints, nat_tests)

unsigned_divided : (y z : ℤ) → IsUnsigned y → IsUnsigned z → guarded bins.DivU (word_of 32 y) (word_of 32 z) ≡ Ok (to_uint32_of (quotient_of y z))
unsigned_divided (pos i) (pos zero) f g = ap (λ n. Ok n) (by_zero_word (pos i))
unsigned_divided (pos i) (pos (suc b)) f g =
    let below = small i f in
    let divisor = small (suc b) g in
    let same_i : i % 2 ^ 32 ≡ i = omega (arith, below) in
    let same : suc b % 2 ^ 32 ≡ suc b = omega (arith, divisor) in
    let most = div-le_self i (suc b) in
    let fits : i / suc b ≡ i / suc b % 2 ^ 32 = omega (arith, most, below) in
    ap (λ a. guarded bins.DivU a (suc b % 2 ^ 32)) same_i ∙ ap (λ b. guarded bins.DivU i b) same
    ∙ ap (λ t. if t then Ok 0 else (if t then Err ZeroDivisor else Ok (i / suc b))) (suc_is_not_zero b)
    ∙ ap (λ n. Ok n) (fits ∙ quotient_word (pos i) (pos (suc b)) (by_positive b))
unsigned_divided (pos i) (negsuc b) f g = absurd (cc g)
unsigned_divided (negsuc a) z f g = absurd (cc f)

unsigned_rest : (y z : ℤ) → IsUnsigned y → IsUnsigned z → guarded bins.RemU (word_of 32 y) (word_of 32 z) ≡ Ok (to_uint32_of (remainder_of y z))
unsigned_rest (pos i) (pos zero) f g = refl
unsigned_rest (pos i) (pos (suc b)) f g =
    let below = small i f in
    let divisor = small (suc b) g in
    let same_i : i % 2 ^ 32 ≡ i = omega (arith, below) in
    let same : suc b % 2 ^ 32 ≡ suc b = omega (arith, divisor) in
    let most = mod-le i (suc b) in
    let fits : i % suc b ≡ i % suc b % 2 ^ 32 = omega (arith, most, below) in
    ap (λ a. guarded bins.RemU a (suc b % 2 ^ 32)) same_i ∙ ap (λ b. guarded bins.RemU i b) same
    ∙ ap (λ t. if t then Ok 0 else (if t then Err ZeroDivisor else Ok (i % suc b))) (suc_is_not_zero b)
    ∙ ap (λ n. Ok n) (fits ∙ remainder_word (pos i) (pos (suc b)) (suc_is_not_zero b))
unsigned_rest (pos i) (negsuc b) f g = absurd (cc g)
unsigned_rest (negsuc a) z f g = absurd (cc f)

-- ---- values that are numbers

pub signed_quotients : SignedQuotients
signed_quotients (Whole y) (Whole z) x f g h = signed_divided y z f g ∙ ap (λ x. Ok (to_uint32_of x)) (taken quotient_of y z x h)
signed_quotients (Whole y) w x f g h = absurd (cc g)
signed_quotients v w x f g h = absurd (cc f)

pub unsigned_quotients : UnsignedQuotients
unsigned_quotients (Whole y) (Whole z) x f g h = unsigned_divided y z f g ∙ ap (λ x. Ok (to_uint32_of x)) (taken quotient_of y z x h)
unsigned_quotients (Whole y) w x f g h = absurd (cc g)
unsigned_quotients v w x f g h = absurd (cc f)

pub signed_remainders : SignedRemainders
signed_remainders (Whole y) (Whole z) x f g h = signed_rest y z f g ∙ ap (λ x. Ok (to_uint32_of x)) (taken remainder_of y z x h)
signed_remainders (Whole y) w x f g h = absurd (cc g)
signed_remainders v w x f g h = absurd (cc f)

pub unsigned_remainders : UnsignedRemainders
unsigned_remainders (Whole y) (Whole z) x f g h = unsigned_rest y z f g ∙ ap (λ x. Ok (to_uint32_of x)) (taken remainder_of y z x h)
unsigned_remainders (Whole y) w x f g h = absurd (cc g)
unsigned_remainders v w x f g h = absurd (cc f)

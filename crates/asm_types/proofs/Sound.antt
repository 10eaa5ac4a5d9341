-- The values of a type below another are values of that one, and an operator's result is a value of its row's type.
use Rattle.std.proofs.Common.{◌≡◌, ◌≢◌, ℕ, ◌+◌, ◌-◌, ◌*◌, ◌%◌, ◌^◌, ◌<◌, ◌≤◌, ℤ, pos, negsuc, ◌+ℤ◌, ◌-ℤ◌, ◌*ℤ◌, ◌≤ℤ◌, Bool, true, false, Option, Some, cond, ◌⊎◌, inl, inr, refl, subst, arith, lit<, lit≤, le-leb}
use Rattle.std.specs.Int.{int_shr}
use Rattle.std.proofs.lemmas.Nat.{or_lt, xor_lt, and_le_l, shr_le, mod_below, mul-le}
use Rattle.std.proofs.Math.Nat.{lt_of_le_of_lt, le_trans}
use Rattle.sem_words.specs.declared.js_value.JsOp.{JsOp}
use Rattle.sem_words.specs.declared.js_value.JsOp.TheVariants.{Add, Sub, Mul, Div, Rem, Or, And, Xor, Shl, Sar, Shr, Lt, Le, Gt, Ge, Eq, Ne}
use Rattle.sem_words.specs.declared.js_value.JsUnary.{JsUnary}
use Rattle.sem_words.specs.declared.js_value.JsUnary.TheVariants.{Neg, BitNot, Not, Plus}
use Rattle.std.specs.Prelude.{◌&&◌, ◌||◌, nat_le, int_div, option_map, unsigned_abs}
use Rattle.std.proofs.lemmas.Bool.{and_parts, or_cases}
use Rattle.std.proofs.Math.Bool.{or-true}
use Rattle.std.proofs.lemmas.Bool.Decides.{nat_tests}
use Rattle.std.proofs.lemmas.Int.{ints, unsigned_abs-mul}
use Rattle.sem_words.specs.declared.js_value.JsValue.{JsValue}
use Rattle.sem_words.specs.declared.js_value.JsValue.TheVariants.{Whole, Frac, NegZero, NaN, PosInf, NegInf, Bool as Boolean, Undef}
use Rattle.sem_words.specs.JsValues.{to_uint32_of, to_int32_of}
use Rattle.sem_words.specs.JsOperators.{is_zero, is_negative, whole_of, alike_of, are_alike, exact_of, product_of, quotient_of, remainder_of, negated_of, signed_value, unsigned_value, js_binary_of, js_unary_of, js_imul_of, js_clz32_of}
use Rattle.sem_words.proofs.WordLaws.{word_of-IsWord, un_of-le}
use Rattle.sem_words.specs.Words.{mul_of, leading_zeros_of}
use Rattle.sem_words.specs.declared.word.Un.TheVariants.{Clz}
use Rattle.asm_types.specs.declared.value_type.ValueType.{ValueType}
use Rattle.asm_types.specs.declared.value_type.ValueType.TheVariants.{Fixnum, Signed, Unsigned, Int, Intish, Extern}
use Rattle.asm_types.specs.Types.{is_below}
use Rattle.asm_types.specs.Rows.{Operands, each, alike, accepts, takes_of, gives_of, row, binary_row_of, unary_row_of}
use Rattle.asm_types.specs.Values.{fits_of, is_between, least}

-- ---- types are sets

between_wider : (a b c d z : ℤ) → c ≤ℤ a → b ≤ℤ d → is_between a b z ≡ true → is_between c d z ≡ true
between_wider a b c d z h i w = grind (arith, ints, nat_tests)

-- a type below another is a smaller set
pub wider : (s t : ValueType) (v : JsValue) → is_below s t ≡ true → fits_of s v ≡ true → fits_of t v ≡ true
wider Fixnum Fixnum v b f = f
wider Fixnum Signed (Whole z) b f = between_wider (pos 0) (pos (2 ^ 31)) least (pos (2 ^ 31)) z (omega (arith, ints)) (omega (arith, ints)) f
wider Fixnum Unsigned (Whole z) b f = between_wider (pos 0) (pos (2 ^ 31)) (pos 0) (pos (2 ^ 32)) z (omega (arith, ints)) (omega (arith, ints)) f
wider Fixnum Int (Whole z) b f = between_wider (pos 0) (pos (2 ^ 31)) least (pos (2 ^ 32)) z (omega (arith, ints)) (omega (arith, ints)) f
wider Fixnum Intish v b f = refl
wider Fixnum Extern (Whole z) b f = between_wider (pos 0) (pos (2 ^ 31)) least (pos (2 ^ 31)) z (omega (arith, ints)) (omega (arith, ints)) f
wider Signed Signed v b f = f
wider Signed Int (Whole z) b f = between_wider least (pos (2 ^ 31)) least (pos (2 ^ 32)) z (omega (arith, ints)) (omega (arith, ints)) f
wider Signed Intish v b f = refl
wider Signed Extern (Whole z) b f = f
wider Unsigned Unsigned v b f = f
wider Unsigned Int (Whole z) b f = between_wider (pos 0) (pos (2 ^ 32)) least (pos (2 ^ 32)) z (omega (arith, ints)) (omega (arith, ints)) f
wider Unsigned Intish v b f = refl
wider Int Int v b f = f
wider Int Intish v b f = refl
wider Intish Intish v b f = f
wider Extern Extern v b f = f
wider s t v b f = cc

-- ---- results

-- there is a result, and it is a value of the type
pub record Gives (t : ValueType) (o : Option JsValue) : Type 0 where
  pub value : JsValue
  pub is : o ≡ Some value
  pub fit : fits_of t value ≡ true

-- an int is a number
pub record Number (o : Option ℤ) : Type 0 where
  pub number : ℤ
  pub is : o ≡ Some number
  pub small : is_between least (pos (2 ^ 32)) number ≡ true

pub number_of : (v : JsValue) → fits_of Int v ≡ true → Number (whole_of v)
number_of (Whole z) h = record { number = z; is = refl; small = h }
number_of (Boolean true) h = record { number = pos 1; is = refl; small = grind (arith, ints, nat_tests) }
number_of (Boolean false) h = record { number = pos 0; is = refl; small = grind (arith, ints, nat_tests) }
number_of v h = absurd (cc)

pub to_uint32_lt : (v : JsValue) → to_uint32_of v < 2 ^ 32
to_uint32_lt (Whole z) = word_of-IsWord 32 z
to_uint32_lt (Frac a b) = word_of-IsWord 32 (int_div a b)
to_uint32_lt NegZero = lit< tt
to_uint32_lt NaN = lit< tt
to_uint32_lt PosInf = lit< tt
to_uint32_lt NegInf = lit< tt
to_uint32_lt (Boolean true) = lit< tt
to_uint32_lt (Boolean false) = lit< tt
to_uint32_lt Undef = lit< tt

signed_fits : (a : ℕ) → a < 2 ^ 32 → fits_of Signed (signed_value a) ≡ true
signed_fits a h = grind (arith, ints, nat_tests)

signed_gives : (a : ℕ) → a < 2 ^ 32 → Gives Signed (Some (signed_value a))
signed_gives a h = record { value = signed_value a; is = refl; fit = signed_fits a h }

unsigned_gives : (a : ℕ) → a < 2 ^ 32 → Gives Unsigned (Some (unsigned_value a))
unsigned_gives a h = record { value = unsigned_value a; is = refl; fit = grind (arith, ints, nat_tests) }

-- ---- operands

-- operands that an operator takes
abbrev pub Good : Operands → JsValue → JsValue → Type 0
Good (each top) v w = (fits_of top v ≡ true) × (fits_of top w ≡ true)
Good alike v w = ((fits_of Signed v ≡ true) × (fits_of Signed w ≡ true)) ⊎ ((fits_of Unsigned v ≡ true) × (fits_of Unsigned w ≡ true))

pub accepted : (o : Operands) (a b : ValueType) (v w : JsValue) → accepts o a b ≡ true → fits_of a v ≡ true → fits_of b w ≡ true → Good o v w
accepted (each top) a b v w h f g =
    let p = and_parts _ _ h in (wider a top v p.0 f, wider b top w p.1 g)
accepted alike a b v w h f g =
    elim (or_cases _ _ h) [
      | inl i ↦ let p = and_parts _ _ i in inl (wider a Signed v p.0 f, wider b Signed w p.1 g)
      | inr i ↦ let p = and_parts _ _ i in inr (wider a Unsigned v p.0 f, wider b Unsigned w p.1 g)
    ]

-- two whole numbers, both signed or both unsigned
record Wholes (v w : JsValue) : Type 0 where
  x : ℤ
  y : ℤ
  left : v ≡ Whole x
  right : w ≡ Whole y
  alike_numbers : are_alike x y ≡ true

wholes : (v w : JsValue) → Good alike v w → Wholes v w
wholes (Whole x) (Whole y) (inl p) = record { x = x; y = y; left = refl; right = refl; alike_numbers = rw (p.0, p.1) refl }
wholes (Whole x) (Whole y) (inr p) = record { x = x; y = y; left = refl; right = refl; alike_numbers = rw (p.0, p.1) (or-true _) }
wholes (Whole x) w (inl p) = absurd (cc)
wholes (Whole x) w (inr p) = absurd (cc)
wholes v w (inl p) = absurd (cc)
wholes v w (inr p) = absurd (cc)

on_alike_gives : (t : ValueType) (f : ℤ → ℤ → JsValue) (v w : JsValue) → ((x y : ℤ) → fits_of t (f x y) ≡ true) → Good alike v w → Gives t (option_map (λ (x, y). f x y) (alike_of v w))
on_alike_gives t f v w h g = let m = wholes v w g in on_alike_at m.x m.y m.left m.right m.alike_numbers
  where
    on_alike_at : (x y : ℤ) → v ≡ Whole x → w ≡ Whole y → are_alike x y ≡ true → Gives t (option_map (λ (x, y). f x y) (alike_of v w))
    on_alike_at x y p q r = rw (p, q, r) (record { value = f x y; is = refl; fit = h x y })

-- ---- the operators

sum_small : (x y : ℤ) → is_between least (pos (2 ^ 32)) x ≡ true → is_between least (pos (2 ^ 32)) y ≡ true → nat_le (unsigned_abs (x +ℤ y)) (2 ^ 53) ≡ true
sum_small x y h k = grind (arith, ints, nat_tests)

difference_small : (x y : ℤ) → is_between least (pos (2 ^ 32)) x ≡ true → is_between least (pos (2 ^ 32)) y ≡ true → nat_le (unsigned_abs (x -ℤ y)) (2 ^ 53) ≡ true
difference_small x y h k = grind (arith, ints, nat_tests)

add_gives : (v w : JsValue) → Good (each Int) v w → Gives Intish (js_binary_of Add v w)
add_gives v w g =
    let m = number_of v g.0 in
    let n = number_of w g.1 in
    rw (m.is, n.is) (rw (sum_small m.number n.number m.small n.small) (record { value = Whole (m.number +ℤ n.number); is = refl; fit = refl }))

sub_gives : (v w : JsValue) → Good (each Int) v w → Gives Intish (js_binary_of Sub v w)
sub_gives v w g =
    let m = number_of v g.0 in
    let n = number_of w g.1 in
    rw (m.is, n.is) (rw (difference_small m.number n.number m.small n.small) (record { value = Whole (m.number -ℤ n.number); is = refl; fit = refl }))

-- a shift that rounds down stays signed
shifted_fits : (z : ℤ) (k : ℕ) → fits_of Signed (Whole z) ≡ true → fits_of Signed (Whole (int_shr z k)) ≡ true
shifted_fits (pos n) k h = let p = shr_le n k in grind (arith, ints, nat_tests)
shifted_fits (negsuc n) k h = let p = shr_le n k in grind (arith, ints, nat_tests)

shr_gives : (v w : JsValue) → Gives Unsigned (js_binary_of Shr v w)
shr_gives v w = unsigned_gives _ (lt_of_le_of_lt (shr_le (to_uint32_of v) (to_uint32_of w % 32)) (to_uint32_lt v))

-- each operator but `*`, whose result may be past 2 ^ 53 where no operand is small
pub binary_gives : (op : JsOp) (v w : JsValue) → op ≢ Mul → Good (takes_of op) v w → Gives (gives_of op) (js_binary_of op v w)
binary_gives Add v w n g = add_gives v w g
binary_gives Sub v w n g = sub_gives v w g
binary_gives Mul v w n g = absurd (n refl)
binary_gives Div v w n g = on_alike_gives Intish quotient_of v w (λ x y. refl) g
binary_gives Rem v w n g = on_alike_gives Intish remainder_of v w (λ x y. refl) g
binary_gives Or v w n g = signed_gives _ (or_lt 32 _ _ (to_uint32_lt v) (to_uint32_lt w))
binary_gives And v w n g = signed_gives _ (lt_of_le_of_lt (and_le_l (to_uint32_of v) (to_uint32_of w)) (to_uint32_lt v))
binary_gives Xor v w n g = signed_gives _ (xor_lt 32 _ _ (to_uint32_lt v) (to_uint32_lt w))
binary_gives Shl v w n g = signed_gives _ (mod_below (to_uint32_of v * 2 ^ (to_uint32_of w % 32)) (2 ^ 32) (lit< tt))
binary_gives Sar v w n g = record { value = _; is = refl; fit = shifted_fits (to_int32_of v) (to_uint32_of w % 32) (signed_fits (to_uint32_of v) (to_uint32_lt v)) }
binary_gives Shr v w n g = shr_gives v w
binary_gives Lt v w n g = on_alike_gives Int _ v w (λ x y. refl) g
binary_gives Le v w n g = on_alike_gives Int _ v w (λ x y. refl) g
binary_gives Gt v w n g = on_alike_gives Int _ v w (λ x y. refl) g
binary_gives Ge v w n g = on_alike_gives Int _ v w (λ x y. refl) g
binary_gives Eq v w n g = on_alike_gives Int _ v w (λ x y. refl) g
binary_gives Ne v w n g = on_alike_gives Int _ v w (λ x y. refl) g

-- ---- products with a small number, and chains

pub int_small : (z : ℤ) → is_between least (pos (2 ^ 32)) z ≡ true → unsigned_abs z ≤ 2 ^ 32
int_small z h = grind (arith, ints, nat_tests)

product_small : (x y : ℤ) (m n : ℕ) → unsigned_abs x ≤ m → unsigned_abs y ≤ n → m * n ≤ 2 ^ 53 → Gives Intish (product_of x y)
product_small x y m n h k le = either (is_zero (x *ℤ y) && (is_negative x || is_negative y))
  where
    abs : unsigned_abs (x *ℤ y) ≤ 2 ^ 53
    abs = rw (unsigned_abs-mul x y) (le_trans (mul-le (unsigned_abs x) (unsigned_abs y) m n h k) le)

    either : (b : Bool) → Gives Intish (cond b (Some NegZero) (exact_of (x *ℤ y)))
    either true = record { value = NegZero; is = refl; fit = refl }
    either false = rw (le-leb _ _ abs) (record { value = Whole (x *ℤ y); is = refl; fit = refl })

-- an int times a literal of magnitude below 2 ^ 20, either way round
pub product_gives : (v : JsValue) (z : ℤ) → fits_of Int v ≡ true → unsigned_abs z < 2 ^ 20 → Gives Intish (js_binary_of Mul v (Whole z))
product_gives v z f small =
    let m = number_of v f in
    rw m.is (product_small m.number z (2 ^ 32) (2 ^ 20) (int_small m.number m.small) (omega arith) (lit≤ tt))

pub product_turned_gives : (z : ℤ) (v : JsValue) → unsigned_abs z < 2 ^ 20 → fits_of Int v ≡ true → Gives Intish (js_binary_of Mul (Whole z) v)
product_turned_gives z v small f =
    let m = number_of v f in
    rw m.is (product_small z m.number (2 ^ 20) (2 ^ 32) (omega arith) (int_small m.number m.small) (lit≤ tt))

-- what k ints, added and subtracted, come to
pub record Sums (k : ℕ) (o : Option JsValue) : Type 0 where
  pub number : ℤ
  pub is : o ≡ Some (Whole number)
  pub small : unsigned_abs number ≤ k * 2 ^ 32

chain_sum : (k : ℕ) (x y : ℤ) → unsigned_abs x ≤ k * 2 ^ 32 → unsigned_abs y ≤ 2 ^ 32 → unsigned_abs (x +ℤ y) ≤ (k + 1) * 2 ^ 32
chain_sum k x y h i = grind (arith, ints)

chain_difference : (k : ℕ) (x y : ℤ) → unsigned_abs x ≤ k * 2 ^ 32 → unsigned_abs y ≤ 2 ^ 32 → unsigned_abs (x -ℤ y) ≤ (k + 1) * 2 ^ 32
chain_difference k x y h i = grind (arith, ints)

-- one operand more, of at most 2 ^ 20 after the first
pub sum_step : (k : ℕ) (x : ℤ) (w : JsValue) → unsigned_abs x ≤ k * 2 ^ 32 → k ≤ 2 ^ 20 → fits_of Int w ≡ true → Sums (k + 1) (js_binary_of Add (Whole x) w)
sum_step k x w h most f =
    let n = number_of w f in
    let s = chain_sum k x n.number h (int_small n.number n.small) in
    let e : nat_le (unsigned_abs (x +ℤ n.number)) (2 ^ 53) ≡ true = le-leb _ _ (omega arith) in
    rw n.is (rw e (record { number = x +ℤ n.number; is = refl; small = s }))

pub difference_step : (k : ℕ) (x : ℤ) (w : JsValue) → unsigned_abs x ≤ k * 2 ^ 32 → k ≤ 2 ^ 20 → fits_of Int w ≡ true → Sums (k + 1) (js_binary_of Sub (Whole x) w)
difference_step k x w h most f =
    let n = number_of w f in
    let s = chain_difference k x n.number h (int_small n.number n.small) in
    let e : nat_le (unsigned_abs (x -ℤ n.number)) (2 ^ 53) ≡ true = le-leb _ _ (omega arith) in
    rw n.is (rw e (record { number = x -ℤ n.number; is = refl; small = s }))

-- ---- the rows

pub from_row : (b : Bool) (r t : ValueType) → row b r ≡ Some t → (b ≡ true) × (r ≡ t)
from_row true r t h = (refl, cc)
from_row false r t h = absurd (cc)

pub binary_sound : (op : JsOp) (a b t : ValueType) (v w : JsValue) → op ≢ Mul → binary_row_of op a b ≡ Some t → fits_of a v ≡ true → fits_of b w ≡ true → Gives t (js_binary_of op v w)
binary_sound op a b t v w n h f g =
    let r = from_row (accepts (takes_of op) a b) (gives_of op) t h in
    subst (λ u. Gives u (js_binary_of op v w)) r.1 (binary_gives op v w n (accepted (takes_of op) a b v w r.0 f g))

neg_gives : (v : JsValue) → fits_of Int v ≡ true → Gives Intish (js_unary_of Neg v)
neg_gives v f = let m = number_of v f in rw m.is (record { value = negated_of m.number; is = refl; fit = refl })

not_gives : (v : JsValue) → fits_of Int v ≡ true → Gives Int (js_unary_of Not v)
not_gives v f = let m = number_of v f in rw m.is (record { value = Boolean (is_zero m.number); is = refl; fit = refl })

complement_gives : (v : JsValue) → Gives Signed (js_unary_of BitNot v)
complement_gives v = signed_gives (2 ^ 32 - 1 - to_uint32_of v) (omega arith)

pub unary_sound : (op : JsUnary) (a t : ValueType) (v : JsValue) → unary_row_of op a ≡ Some t → fits_of a v ≡ true → Gives t (js_unary_of op v)
unary_sound Neg a t v h f =
    let r = from_row (is_below a Int) Intish t h in
    subst (λ u. Gives u (js_unary_of Neg v)) r.1 (neg_gives v (wider a Int v r.0 f))
unary_sound BitNot a t v h f =
    let r = from_row (is_below a Intish) Signed t h in
    subst (λ u. Gives u (js_unary_of BitNot v)) r.1 (complement_gives v)
unary_sound Not a t v h f =
    let r = from_row (is_below a Int) Int t h in
    subst (λ u. Gives u (js_unary_of Not v)) r.1 (not_gives v (wider a Int v r.0 f))
unary_sound Plus a t v h f = absurd (cc)

-- ---- the functions

pub imul_gives : (v w : JsValue) → fits_of Int v ≡ true → fits_of Int w ≡ true → Gives Signed (js_imul_of v w)
imul_gives v w f g =
    let m = number_of v f in
    let n = number_of w g in
    let p = signed_fits (mul_of 32 (to_uint32_of v) (to_uint32_of w)) (mod_below (to_uint32_of v * to_uint32_of w) (2 ^ 32) (lit< tt)) in
    rw (m.is, n.is) (record { value = signed_value (mul_of 32 (to_uint32_of v) (to_uint32_of w)); is = refl; fit = p })

clz32_fits : (a : ℕ) → a < 2 ^ 32 → fits_of Fixnum (unsigned_value (leading_zeros_of 32 a)) ≡ true
clz32_fits a h = let p = un_of-le 32 Clz a h in grind (arith, ints, nat_tests)

pub clz32_gives : (v : JsValue) → fits_of Int v ≡ true → Gives Fixnum (js_clz32_of v)
clz32_gives v f =
    let m = number_of v f in
    let p = clz32_fits (to_uint32_of v) (to_uint32_lt v) in
    rw m.is (record { value = unsigned_value (leading_zeros_of 32 (to_uint32_of v)); is = refl; fit = p })

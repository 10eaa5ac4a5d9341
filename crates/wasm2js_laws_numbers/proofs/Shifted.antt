-- Shifts and rotations of words of 64 bits, by counts below 32 and from 32 on.
use Rattle.std.proofs.Common.{◌≡◌, ℕ, zero, suc, ◌+◌, ◌-◌, ◌*◌, ◌/◌, ◌%◌, ◌^◌, ◌<◌, Bool, true, false, refl, sym, ap, ◌∙◌, subst, arith}
use Rattle.std.specs.Prelude.{if◌then◌else◌, nat_lt, bit_and}
use Rattle.std.specs.Int.{bit_at}
use Rattle.std.proofs.lemmas.Bool.Decides.{nat_tests}
use Rattle.std.proofs.lemmas.Nat.{shr-shr, mul-mod_first, pow-add}
use Rattle.std.proofs.lemmas.Nat.Bits.{and_pow}
use Rattle.std.proofs.Math.Nat.{mul_assoc, mod-eq_of_lt}
use Rattle.sem_words.specs.Words.{add_of, sub_of, shl_of, shr_u_of, rotl_of}
use Rattle.wasm2js_laws_numbers.specs.Laws.{joined, flipped, funnel_left, funnel_right, is_far, ShiftsLeft, ShiftsRight, RotationsLeft, RotationsRight, NarrowRotationsLeft, NarrowRotationsRight}
use Rattle.wasm2js_laws_numbers.proofs.Parts.{fits_left, fits_right, up, up_far, down, down_far}

-- ---- counts

flipped_count : (n : ℕ) → n < 2 ^ 32 → flipped n % 32 ≡ 31 - n % 32
flipped_count n h = omega arith

far_is : (n : ℕ) → is_far n ≡ nat_lt 31 (n % 64)
far_is n =
    let e : bit_and n (2 ^ 5) ≡ bit_at n 5 * 2 ^ 5 = and_pow n 5 in
    ap (nat_lt 0) e ∙ by (n / 32 % 2) refl
  where
    by : (b : ℕ) → n / 32 % 2 ≡ b → nat_lt 0 (b * 32) ≡ nat_lt 31 (n % 64)
    by b is = grind (arith, nat_tests)

-- a count of 64 bits by its parts
pub record Near (n more : ℕ) : Type 0 where
  pub count : (n + 2 ^ 32 * more) % 64 ≡ n % 32

pub record Far (n more : ℕ) : Type 0 where
  pub count : (n + 2 ^ 32 * more) % 64 ≡ n % 32 + 32

near_is : (n more : ℕ) → nat_lt 31 (n % 64) ≡ false → Near n more
near_is n more h = let small : n % 64 < 32 = grind (arith, nat_tests) in record { count = omega arith }

far_count : (n more : ℕ) → nat_lt 31 (n % 64) ≡ true → Far n more
far_count n more h = let large : 31 < n % 64 = grind (arith, nat_tests) in record { count = omega arith }

-- cases on a count
pub by_count : (P : Bool → Type 0) (n more : ℕ) → (Near n more → P false) → (Far n more → P true) → P (is_far n)
by_count P n more near far = subst P (sym (far_is n)) (by (nat_lt 31 (n % 64)) refl)
  where
    by : (b : Bool) → nat_lt 31 (n % 64) ≡ b → P b
    by true h = far (far_count n more h)
    by false h = near (near_is n more h)

pub split_32 : (n : ℕ) → (32 - n % 32) + n % 32 ≡ 32
split_32 n = omega arith

-- ---- funnels

pub funnel_left_is : (a b n : ℕ) → b < 2 ^ 32 → n < 2 ^ 32 → funnel_left a b n ≡ a * 2 ^ (n % 32) % 2 ^ 32 + b / 2 ^ (32 - n % 32)
funnel_left_is a b n h small =
    let turned = flipped_count n small in
    let twice : b / 2 ^ 1 / 2 ^ (31 - n % 32) ≡ b / 2 ^ (1 + (31 - n % 32)) = shr-shr b 1 (31 - n % 32) in
    let count : 1 + (31 - n % 32) ≡ 32 - n % 32 = omega arith in
    let right : shr_u_of 32 (shr_u_of 32 b 1) (flipped n) ≡ b / 2 ^ (32 - n % 32) = ap (λ (k : ℕ). b / 2 / 2 ^ k) turned ∙ twice ∙ ap (λ (k : ℕ). b / 2 ^ k) count in
    let fit = fits_left a b (n % 32) (32 - n % 32) (split_32 n) h in
    ap (λ (x : ℕ). add_of 32 (a * 2 ^ (n % 32) % 2 ^ 32) x) right ∙ mod-eq_of_lt fit

pub funnel_right_is : (a b n : ℕ) → a < 2 ^ 32 → n < 2 ^ 32 → funnel_right a b n ≡ a / 2 ^ (n % 32) + b * 2 ^ (32 - n % 32) % 2 ^ 32
funnel_right_is a b n h small =
    let turned = flipped_count n small in
    let out : b * 2 * 2 ^ (31 - n % 32) ≡ b * (2 ^ 1 * 2 ^ (31 - n % 32)) = mul_assoc b 2 (2 ^ (31 - n % 32)) in
    let power : 2 ^ 1 * 2 ^ (31 - n % 32) ≡ 2 ^ (1 + (31 - n % 32)) = sym (pow-add 2 1 (31 - n % 32)) in
    let count : 1 + (31 - n % 32) ≡ 32 - n % 32 = omega arith in
    let twice : b * 2 * 2 ^ (31 - n % 32) ≡ b * 2 ^ (32 - n % 32) = out ∙ ap (λ (x : ℕ). b * x) (power ∙ ap (λ (k : ℕ). 2 ^ k) count) in
    let left : shl_of 32 (shl_of 32 b 1) (flipped n) ≡ b * 2 ^ (32 - n % 32) % 2 ^ 32 =
    ap (λ (k : ℕ). b * 2 % 2 ^ 32 * 2 ^ k % 2 ^ 32) turned ∙ mul-mod_first (b * 2) (2 ^ (31 - n % 32)) (2 ^ 32) ∙ ap (λ (x : ℕ). x % 2 ^ 32) twice in
    let fit = fits_right a b (n % 32) (32 - n % 32) (split_32 n) h in
    ap (λ (x : ℕ). add_of 32 (a / 2 ^ (n % 32)) x) left ∙ mod-eq_of_lt fit

-- ---- shifts

pub shifts_left : ShiftsLeft
shifts_left a x n more h k s = by_count (λ far. shl_of 64 (joined a x) (joined n more) ≡ (if far then joined 0 (shl_of 32 a n) else joined (shl_of 32 a n) (funnel_left x a n))) n more near far
  where
    near : Near n more → shl_of 64 (joined a x) (joined n more) ≡ joined (shl_of 32 a n) (funnel_left x a n)
    near c =
        ap (λ (k : ℕ). joined a x * 2 ^ k % 2 ^ 64) c.count ∙ up a x (n % 32) (32 - n % 32) (split_32 n) h
        ∙ ap (λ (y : ℕ). joined (shl_of 32 a n) y) (sym (funnel_left_is x a n h s))

    far : Far n more → shl_of 64 (joined a x) (joined n more) ≡ joined 0 (shl_of 32 a n)
    far c = ap (λ (k : ℕ). joined a x * 2 ^ k % 2 ^ 64) c.count ∙ up_far a x (n % 32)

pub shifts_right : ShiftsRight
shifts_right a x n more h k s = by_count (λ far. shr_u_of 64 (joined a x) (joined n more) ≡ (if far then joined (shr_u_of 32 x n) 0 else joined (funnel_right a x n) (shr_u_of 32 x n))) n more near far
  where
    near : Near n more → shr_u_of 64 (joined a x) (joined n more) ≡ joined (funnel_right a x n) (shr_u_of 32 x n)
    near c =
        ap (λ (k : ℕ). joined a x / 2 ^ k) c.count ∙ down a x (n % 32) (32 - n % 32) (split_32 n)
        ∙ ap (λ (y : ℕ). joined y (shr_u_of 32 x n)) (sym (funnel_right_is a x n h s))

    far : Far n more → shr_u_of 64 (joined a x) (joined n more) ≡ joined (shr_u_of 32 x n) 0
    far c =
        let none : x / 2 ^ (n % 32) ≡ joined (x / 2 ^ (n % 32)) 0 = omega arith in
        ap (λ (k : ℕ). joined a x / 2 ^ k) c.count ∙ down_far a x (n % 32) h ∙ none

-- ---- rotations

joined_sum : (a x b y : ℕ) → joined a x + joined b y ≡ joined (a + b) (x + y)
joined_sum a x b y = omega arith

pub rotations_left : RotationsLeft
rotations_left a x n more h k s =
    by_count (λ far. rotl_of 64 (joined a x) (joined n more) ≡ (if far then joined (funnel_left x a n) (funnel_left a x n) else joined (funnel_left a x n) (funnel_left x a n))) n more near far
  where
    i : ℕ
    i = n % 32

    m : ℕ
    m = 32 - n % 32

    left : funnel_left a x n ≡ a * 2 ^ (n % 32) % 2 ^ 32 + x / 2 ^ (32 - n % 32)
    left = funnel_left_is a x n k s

    right : funnel_left x a n ≡ x * 2 ^ (n % 32) % 2 ^ 32 + a / 2 ^ (32 - n % 32)
    right = funnel_left_is x a n h s

    near : Near n more → rotl_of 64 (joined a x) (joined n more) ≡ joined (funnel_left a x n) (funnel_left x a n)
    near c =
        let other : 64 - n % 32 ≡ (32 - n % 32) + 32 = omega arith in
        let first = up a x (n % 32) (32 - n % 32) (split_32 n) h in
        let second = ap (λ (k : ℕ). joined a x / 2 ^ k) other ∙ down_far a x (32 - n % 32) h in
        ap (λ (k : ℕ). joined a x * 2 ^ k % 2 ^ 64 + joined a x / 2 ^ (64 - k)) c.count
        ∙ ap (λ (y : ℕ). y + joined a x / 2 ^ (64 - n % 32)) first
        ∙ ap (λ (y : ℕ). joined (a * 2 ^ (n % 32) % 2 ^ 32) (x * 2 ^ (n % 32) % 2 ^ 32 + a / 2 ^ (32 - n % 32)) + y) second
        ∙ meet (a * 2 ^ (n % 32) % 2 ^ 32) (x * 2 ^ (n % 32) % 2 ^ 32 + a / 2 ^ (32 - n % 32)) (x / 2 ^ (32 - n % 32)) (funnel_left a x n) (funnel_left x a n) left right
      where
        meet : (p q r l u : ℕ) → l ≡ p + r → u ≡ q → joined p q + r ≡ joined l u
        meet p q r l u e f = omega arith

    far : Far n more → rotl_of 64 (joined a x) (joined n more) ≡ joined (funnel_left x a n) (funnel_left a x n)
    far c =
        let other : 64 - (n % 32 + 32) ≡ 32 - n % 32 = omega arith in
        let order : n % 32 + (32 - n % 32) ≡ 32 = omega arith in
        let first = up_far a x (n % 32) in
        let second = ap (λ (k : ℕ). joined a x / 2 ^ k) other ∙ down a x (32 - n % 32) (n % 32) order in
        ap (λ (k : ℕ). joined a x * 2 ^ k % 2 ^ 64 + joined a x / 2 ^ (64 - k)) c.count
        ∙ ap (λ (y : ℕ). y + joined a x / 2 ^ (64 - (n % 32 + 32))) first
        ∙ ap (λ (y : ℕ). joined 0 (a * 2 ^ (n % 32) % 2 ^ 32) + y) second
        ∙ meet (a * 2 ^ (n % 32) % 2 ^ 32) (a / 2 ^ (32 - n % 32)) (x * 2 ^ (n % 32) % 2 ^ 32) (x / 2 ^ (32 - n % 32)) (funnel_left x a n) (funnel_left a x n) right left
      where
        meet : (p q r t l u : ℕ) → l ≡ r + q → u ≡ p + t → joined 0 p + joined (q + r) t ≡ joined l u
        meet p q r t l u e f = omega arith

pub narrow_rotations_left : NarrowRotationsLeft
narrow_rotations_left a n h s = sym (funnel_left_is a a n h s)

pub narrow_rotations_right : NarrowRotationsRight
narrow_rotations_right a n h s = sym (funnel_right_is a a n h s)

-- by the opposite count
pub rotations_right : RotationsRight
rotations_right a n more others h s = by (joined n more % 64) (joined (sub_of 32 0 n) others % 64) (omega arith) small opposite
  where
    small : joined n more % 64 < 64
    small = omega arith

    opposite : joined (sub_of 32 0 n) others % 64 ≡ (64 - joined n more % 64) % 64
    opposite = omega arith

    by : (c d : ℕ) → c < 64 → c < 64 → d ≡ (64 - c) % 64 → a / 2 ^ c + a * 2 ^ (64 - c) % 2 ^ 64 ≡ a * 2 ^ d % 2 ^ 64 + a / 2 ^ (64 - d)
    by zero d p q e =
        let none : d ≡ 0 = omega arith in
        rw none (omega arith)
    by (suc c) d p q e =
        let is : d ≡ 64 - suc c = omega arith in
        let back : 64 - (64 - suc c) ≡ suc c = omega arith in
        rw is (rw back (omega arith))

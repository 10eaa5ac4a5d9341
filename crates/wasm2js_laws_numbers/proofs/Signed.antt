-- Shifts to the right that copy the sign, and extensions with it.
use Rattle.std.proofs.Common.{◌≡◌, ℕ, ◌+◌, ◌-◌, ◌*◌, ◌/◌, ◌%◌, ◌^◌, ◌<◌, ◌≤◌, Bool, true, false, pos, negsuc, ◌-ℤ◌, refl, sym, ap, ◌∙◌, subst, arith}
use Rattle.std.specs.Prelude.{if◌then◌else◌, nat_lt}
use Rattle.std.specs.Int.{int_shr}
use Rattle.std.proofs.lemmas.Bool.Decides.{nat_tests}
use Rattle.std.proofs.lemmas.Int.{ints}
use Rattle.std.proofs.lemmas.Nat.{shr_le, shr_below, pow_pos, pow-add, mod_below}
use Rattle.sem_words.specs.Words.{word_of, signed_of, shr_s_of}
use Rattle.wasm2js_laws_numbers.specs.Laws.{joined, flipped, funnel_right, ShiftsRightSigned}
use Rattle.wasm2js_laws_numbers.proofs.Parts.{stays_in, fits_right, down, down_far, turned_quotient, turned_rest}
use Rattle.wasm2js_laws_numbers.proofs.Shifted.{Near, Far, by_count, split_32, funnel_right_is}

-- ---- a shift that copies the sign, by a shift that doesn't

low_signed : (a : ℕ) → a < 2 ^ 31 → signed_of 32 a ≡ pos a
low_signed a h = let e : nat_lt a (2 ^ 31) ≡ true = grind (arith, nat_tests) in ap (λ t. if t then pos a else pos a -ℤ pos (2 ^ 32)) e

high_signed : (a : ℕ) → 2 ^ 31 ≤ a → a < 2 ^ 32 → signed_of 32 a ≡ negsuc (2 ^ 32 - 1 - a)
high_signed a h k = grind (arith, ints)

low_signed_64 : (a : ℕ) → a < 2 ^ 63 → signed_of 64 a ≡ pos a
low_signed_64 a h = let e : nat_lt a (2 ^ 63) ≡ true = grind (arith, nat_tests) in ap (λ t. if t then pos a else pos a -ℤ pos (2 ^ 64)) e

high_signed_64 : (a : ℕ) → 2 ^ 63 ≤ a → a < 2 ^ 64 → signed_of 64 a ≡ negsuc (2 ^ 64 - 1 - a)
high_signed_64 a h k = grind (arith, ints)

pub low_shifted : (a n : ℕ) → a < 2 ^ 31 → shr_s_of 32 a n ≡ a / 2 ^ (n % 32)
low_shifted a n h =
    let less = shr_le a (n % 32) in
    ap (λ z. word_of 32 (int_shr z (n % 32))) (low_signed a h) ∙ small (a / 2 ^ (n % 32)) less
  where
    small : (q : ℕ) → q ≤ a → q % 2 ^ 32 ≡ q
    small q less = omega arith

pub high_shifted : (a n : ℕ) → 2 ^ 31 ≤ a → a < 2 ^ 32 → shr_s_of 32 a n ≡ flipped (flipped a / 2 ^ (n % 32))
high_shifted a n h k =
    let less = shr_le (flipped a) (n % 32) in
    ap (λ z. word_of 32 (int_shr z (n % 32))) (high_signed a h k) ∙ small (flipped a / 2 ^ (n % 32)) less
  where
    small : (q : ℕ) → q ≤ flipped a → 2 ^ 32 - 1 - q % 2 ^ 32 ≡ flipped q
    small q less = omega arith

low_shifted_64 : (a n k : ℕ) → a < 2 ^ 63 → n % 64 ≡ k → shr_s_of 64 a n ≡ a / 2 ^ k
low_shifted_64 a n k h e =
    let less = shr_le a k in
    ap (λ k. word_of 64 (int_shr (signed_of 64 a) k)) e ∙ ap (λ z. word_of 64 (int_shr z k)) (low_signed_64 a h) ∙ small (a / 2 ^ k) less
  where
    small : (q : ℕ) → q ≤ a → q % 2 ^ 64 ≡ q
    small q less = omega arith

high_shifted_64 : (a n k : ℕ) → 2 ^ 63 ≤ a → a < 2 ^ 64 → n % 64 ≡ k → shr_s_of 64 a n ≡ 2 ^ 64 - 1 - (2 ^ 64 - 1 - a) / 2 ^ k
high_shifted_64 a n k h below e =
    let less = shr_le (2 ^ 64 - 1 - a) k in
    ap (λ k. word_of 64 (int_shr (signed_of 64 a) k)) e ∙ ap (λ z. word_of 64 (int_shr z k)) (high_signed_64 a h below) ∙ small ((2 ^ 64 - 1 - a) / 2 ^ k) less
  where
    small : (q : ℕ) → q ≤ 2 ^ 64 - 1 - a → 2 ^ 64 - 1 - q % 2 ^ 64 ≡ 2 ^ 64 - 1 - q
    small q less = omega arith

flip_joined : (a x : ℕ) → a < 2 ^ 32 → x < 2 ^ 32 → 2 ^ 64 - 1 - joined a x ≡ joined (flipped a) (flipped x)
flip_joined a x p q = omega arith

-- a funnel of turned words is that of the words, turned
turned_funnel : (a x k m : ℕ) → k + m ≡ 32 → a < 2 ^ 32 → x < 2 ^ 32 → flipped (flipped a / 2 ^ k + flipped x * 2 ^ m % 2 ^ 32) ≡ a / 2 ^ k + x * 2 ^ m % 2 ^ 32
turned_funnel a x k m e p q =
    let first : flipped a / 2 ^ k ≡ 2 ^ m - 1 - a / 2 ^ k = subst (λ (n : ℕ). (2 ^ n - 1 - a) / 2 ^ k ≡ 2 ^ m - 1 - a / 2 ^ k) e (turned_quotient a k m (rw e p)) in
    let rest : flipped x % 2 ^ k ≡ 2 ^ k - 1 - x % 2 ^ k = subst (λ (n : ℕ). (2 ^ n - 1 - x) % 2 ^ k ≡ 2 ^ k - 1 - x % 2 ^ k) e (turned_rest x k m (rw e q)) in
    let stay : x * 2 ^ m % 2 ^ 32 ≡ x % 2 ^ k * 2 ^ m = subst (λ (n : ℕ). x * 2 ^ m % 2 ^ n ≡ x % 2 ^ k * 2 ^ m) e (stays_in x m k) in
    let turned_stay : flipped x * 2 ^ m % 2 ^ 32 ≡ flipped x % 2 ^ k * 2 ^ m = subst (λ (n : ℕ). flipped x * 2 ^ m % 2 ^ n ≡ flipped x % 2 ^ k * 2 ^ m) e (stays_in (flipped x) m k) in
    let all : 2 ^ k * 2 ^ m ≡ 2 ^ 32 = sym (pow-add 2 k m) ∙ ap (λ (n : ℕ). 2 ^ n) e in
    let low : x % 2 ^ k < 2 ^ k = mod_below x (2 ^ k) (pow_pos k) in
    let order : m + k ≡ 32 = omega arith in
    let few : a / 2 ^ k < 2 ^ m = shr_below a m k (rw order p) in
    let turned_sum : flipped (flipped a / 2 ^ k + flipped x * 2 ^ m % 2 ^ 32) ≡ flipped (2 ^ m - 1 - a / 2 ^ k + (2 ^ k - 1 - x % 2 ^ k) * 2 ^ m) =
    ap (λ (n : ℕ). flipped (n + flipped x * 2 ^ m % 2 ^ 32)) first ∙ ap (λ (n : ℕ). flipped (2 ^ m - 1 - a / 2 ^ k + n)) (turned_stay ∙ ap (λ (r : ℕ). r * 2 ^ m) rest) in
    turned_sum ∙ by (a / 2 ^ k) (x % 2 ^ k) (2 ^ k) (2 ^ m) all low few ∙ ap (λ (n : ℕ). a / 2 ^ k + n) (sym stay)
  where
    by : (c r p q : ℕ) → p * q ≡ 2 ^ 32 → r < p → c < q → flipped (q - 1 - c + (p - 1 - r) * q) ≡ c + r * q
    by c r p q all low few =
        let d = p - 1 - r in
        let whole : p ≡ r + d + 1 = omega arith in
        let out : (r + d + 1) * q ≡ r * q + d * q + q = grind arith in
        let sum : r * q + d * q + q ≡ 2 ^ 32 = sym out ∙ sym (ap (λ (n : ℕ). n * q) whole) ∙ all in
        omega arith

pub shifts_right_signed : ShiftsRightSigned
shifts_right_signed a x n more h k s =
    by_count (λ far. shr_s_of 64 (joined a x) (joined n more) ≡ (if far then joined (shr_s_of 32 x n) (shr_s_of 32 x 31) else joined (funnel_right a x n) (shr_s_of 32 x n))) n more
    (λ c. near (nat_lt x (2 ^ 31)) refl c) (λ c. far (nat_lt x (2 ^ 31)) refl c)
  where
    order : n % 32 + (32 - n % 32) ≡ 32
    order = omega arith

    near : (b : Bool) → nat_lt x (2 ^ 31) ≡ b → Near n more → shr_s_of 64 (joined a x) (joined n more) ≡ joined (funnel_right a x n) (shr_s_of 32 x n)
    near true is c =
        let low : x < 2 ^ 31 = grind (arith, nat_tests) in
        let small : joined a x < 2 ^ 63 = omega arith in
        low_shifted_64 (joined a x) (joined n more) (n % 32) small c.count ∙ down a x (n % 32) (32 - n % 32) (split_32 n)
        ∙ ap (λ (y : ℕ). joined y (x / 2 ^ (n % 32))) (sym (funnel_right_is a x n h s)) ∙ ap (λ (y : ℕ). joined (funnel_right a x n) y) (sym (low_shifted x n low))
    near false is c =
        let high : 2 ^ 31 ≤ x = grind (arith, nat_tests) in
        let large : 2 ^ 63 ≤ joined a x = omega arith in
        let below : joined a x < 2 ^ 64 = omega arith in
        let fa : flipped a < 2 ^ 32 = omega arith in
        let fx : flipped x < 2 ^ 32 = omega arith in
        let first = flip_joined a x h k in
        let quotient = down (flipped a) (flipped x) (n % 32) (32 - n % 32) (split_32 n) in
        let fit = fits_right (flipped a) (flipped x) (n % 32) (32 - n % 32) (split_32 n) fa in
        let less = shr_le (flipped x) (n % 32) in
        let few : flipped x / 2 ^ (n % 32) < 2 ^ 32 = omega arith in
        high_shifted_64 (joined a x) (joined n more) (n % 32) large below c.count
        ∙ ap (λ (y : ℕ). 2 ^ 64 - 1 - y / 2 ^ (n % 32)) first ∙ ap (λ (y : ℕ). 2 ^ 64 - 1 - y) quotient
        ∙ flip_joined (flipped a / 2 ^ (n % 32) + flipped x * 2 ^ (32 - n % 32) % 2 ^ 32) (flipped x / 2 ^ (n % 32)) fit few
        ∙ ap (λ (y : ℕ). joined y (flipped (flipped x / 2 ^ (n % 32)))) (turned_funnel a x (n % 32) (32 - n % 32) order h k ∙ sym (funnel_right_is a x n h s))
        ∙ ap (λ (y : ℕ). joined (funnel_right a x n) y) (sym (high_shifted x n high k))

    far : (b : Bool) → nat_lt x (2 ^ 31) ≡ b → Far n more → shr_s_of 64 (joined a x) (joined n more) ≡ joined (shr_s_of 32 x n) (shr_s_of 32 x 31)
    far true is c =
        let low : x < 2 ^ 31 = grind (arith, nat_tests) in
        let small : joined a x < 2 ^ 63 = omega arith in
        let none : x / 2 ^ 31 ≡ 0 = omega arith in
        let sign : shr_s_of 32 x 31 ≡ 0 = low_shifted x 31 low ∙ none in
        let lone : x / 2 ^ (n % 32) ≡ joined (x / 2 ^ (n % 32)) 0 = omega arith in
        low_shifted_64 (joined a x) (joined n more) (n % 32 + 32) small c.count ∙ down_far a x (n % 32) h ∙ lone
        ∙ ap (λ (y : ℕ). joined y 0) (sym (low_shifted x n low)) ∙ ap (λ (y : ℕ). joined (shr_s_of 32 x n) y) (sym sign)
    far false is c =
        let high : 2 ^ 31 ≤ x = grind (arith, nat_tests) in
        let large : 2 ^ 63 ≤ joined a x = omega arith in
        let below : joined a x < 2 ^ 64 = omega arith in
        let fa : flipped a < 2 ^ 32 = omega arith in
        let first = flip_joined a x h k in
        let none : flipped (flipped x / 2 ^ 31) ≡ 2 ^ 32 - 1 = omega arith in
        let sign : shr_s_of 32 x 31 ≡ 2 ^ 32 - 1 = high_shifted x 31 high k ∙ none in
        let less = shr_le (flipped x) (n % 32) in
        high_shifted_64 (joined a x) (joined n more) (n % 32 + 32) large below c.count
        ∙ ap (λ (y : ℕ). 2 ^ 64 - 1 - y / 2 ^ (n % 32 + 32)) first ∙ ap (λ (y : ℕ). 2 ^ 64 - 1 - y) (down_far (flipped a) (flipped x) (n % 32) fa)
        ∙ last (flipped x / 2 ^ (n % 32)) less
        ∙ ap (λ (y : ℕ). joined y (2 ^ 32 - 1)) (sym (high_shifted x n high k)) ∙ ap (λ (y : ℕ). joined (shr_s_of 32 x n) y) (sym sign)
      where
        last : (q : ℕ) → q ≤ flipped x → 2 ^ 64 - 1 - q ≡ joined (flipped q) (2 ^ 32 - 1)
        last q less = omega arith

-- A word of 64 bits times or by a power of two: p is 2 ^ k and q is 2 ^ (32 - k).
use Rattle.std.proofs.Common.{◌≡◌, ℕ, ◌+◌, ◌-◌, ◌*◌, ◌/◌, ◌%◌, ◌^◌, ◌<◌, ◌≤◌, sym, ap, ◌∙◌, subst, arith}
use Rattle.std.proofs.Math.Nat.{add-mul-div_left, mul-mod_left}
use Rattle.std.proofs.lemmas.Nat.{pow_pos, pow-add, shl-shr, shr-shr, shr_below, mod-pow-add, mod_below, mul-le, div-mul-add, mod-mul-add, div-add-mod'}
use Rattle.wasm2js_laws_numbers.specs.Laws.{joined}

-- what stays in a word of m + k bits
pub stays_in : (a k m : ℕ) → a * 2 ^ k % 2 ^ (m + k) ≡ a % 2 ^ m * 2 ^ k
stays_in a k m =
    let split = mod-pow-add (a * 2 ^ k) m k in
    let none : a * 2 ^ k % 2 ^ k ≡ 0 = mul-mod_left a (2 ^ k) in
    let whole : a * 2 ^ k / 2 ^ k ≡ a = shl-shr a k in
    rw split (rw (none, whole) (omega arith))

-- what leaves it
pub leaves : (a k m : ℕ) → a * 2 ^ k / 2 ^ (m + k) ≡ a / 2 ^ m
leaves a k m =
    let whole : a * 2 ^ k / 2 ^ k ≡ a = shl-shr a k in
    let e : a * 2 ^ k / 2 ^ k / 2 ^ m ≡ a * 2 ^ k / 2 ^ (k + m) = shr-shr (a * 2 ^ k) k m in
    let order : k + m ≡ m + k = omega arith in
    sym (sym (ap (λ (y : ℕ). y / 2 ^ m) whole) ∙ e ∙ ap (λ (n : ℕ). a * 2 ^ k / 2 ^ n) order)

-- a word's part that stays, and another one's that comes in, are below the word's bound
pub fits_left : (a b k m : ℕ) → m + k ≡ 32 → b < 2 ^ 32 → a * 2 ^ k % 2 ^ 32 + b / 2 ^ m < 2 ^ 32
fits_left a b k m e h =
    let stay : a * 2 ^ k % 2 ^ 32 ≡ a % 2 ^ m * 2 ^ k = subst (λ (n : ℕ). a * 2 ^ k % 2 ^ n ≡ a % 2 ^ m * 2 ^ k) e (stays_in a k m) in
    let order : k + m ≡ 32 = omega arith in
    let come : b / 2 ^ m < 2 ^ k = shr_below b k m (rw order h) in
    let all : 2 ^ m * 2 ^ k ≡ 2 ^ 32 = sym (pow-add 2 m k) ∙ ap (λ (n : ℕ). 2 ^ n) e in
    let low : a % 2 ^ m < 2 ^ m = mod_below a (2 ^ m) (pow_pos m) in
    let most : (a % 2 ^ m + 1) * 2 ^ k ≤ 2 ^ m * 2 ^ k = mul-le (a % 2 ^ m + 1) (2 ^ k) (2 ^ m) (2 ^ k) (omega arith) (omega arith) in
    let out : (a % 2 ^ m + 1) * 2 ^ k ≡ a % 2 ^ m * 2 ^ k + 2 ^ k = grind arith in
    omega arith

-- a product's words
pub up : (a x k m : ℕ) → m + k ≡ 32 → a < 2 ^ 32 → joined a x * 2 ^ k % 2 ^ 64 ≡ joined (a * 2 ^ k % 2 ^ 32) (x * 2 ^ k % 2 ^ 32 + a / 2 ^ m)
up a x k m e h =
    let whole : joined a x * 2 ^ k ≡ a * 2 ^ k + 2 ^ 32 * (x * 2 ^ k) = grind arith in
    let leave : a * 2 ^ k / 2 ^ 32 ≡ a / 2 ^ m = subst (λ (n : ℕ). a * 2 ^ k / 2 ^ n ≡ a / 2 ^ m) e (leaves a k m) in
    let fit = fits_left x a k m e h in
    by (a * 2 ^ k) (x * 2 ^ k) (joined a x * 2 ^ k) (a / 2 ^ m) whole leave fit
  where
    by : (s t n c : ℕ) → n ≡ s + 2 ^ 32 * t → s / 2 ^ 32 ≡ c → t % 2 ^ 32 + c < 2 ^ 32 → n % 2 ^ 64 ≡ joined (s % 2 ^ 32) (t % 2 ^ 32 + c)
    by s t n c is leave fit = omega arith

-- .. where all of the high word leaves
pub up_far : (a x k : ℕ) → joined a x * 2 ^ (k + 32) % 2 ^ 64 ≡ joined 0 (a * 2 ^ k % 2 ^ 32)
up_far a x k =
    let split : 2 ^ (k + 32) ≡ 2 ^ k * 2 ^ 32 = pow-add 2 k 32 in
    let whole : joined a x * 2 ^ (k + 32) ≡ 2 ^ 32 * (a * 2 ^ k) + 2 ^ 64 * (x * 2 ^ k) = rw split (grind arith) in
    by (a * 2 ^ k) (x * 2 ^ k) (joined a x * 2 ^ (k + 32)) whole
  where
    by : (s t n : ℕ) → n ≡ 2 ^ 32 * s + 2 ^ 64 * t → n % 2 ^ 64 ≡ joined 0 (s % 2 ^ 32)
    by s t n is = omega arith

-- a quotient's words
pub down : (a x k m : ℕ) → m + k ≡ 32 → joined a x / 2 ^ k ≡ joined (a / 2 ^ k + x * 2 ^ m % 2 ^ 32) (x / 2 ^ k)
down a x k m e =
    let order : k + m ≡ 32 = omega arith in
    let all : 2 ^ k * 2 ^ m ≡ 2 ^ 32 = sym (pow-add 2 k m) ∙ ap (λ (n : ℕ). 2 ^ n) order in
    let stay : x * 2 ^ m % 2 ^ 32 ≡ x % 2 ^ k * 2 ^ m = subst (λ (n : ℕ). x * 2 ^ m % 2 ^ n ≡ x % 2 ^ k * 2 ^ m) order (stays_in x m k) in
    let parts : x / 2 ^ k * 2 ^ k + x % 2 ^ k ≡ x = div-add-mod' x (2 ^ k) in
    let whole : joined a x ≡ a + 2 ^ k * (x % 2 ^ k * 2 ^ m + 2 ^ 32 * (x / 2 ^ k)) = turned (x / 2 ^ k) (x % 2 ^ k) (2 ^ k) (2 ^ m) parts all in
    let quotient = add-mul-div_left a (x % 2 ^ k * 2 ^ m + 2 ^ 32 * (x / 2 ^ k)) {y = 2 ^ k} (pow_pos k) in
    ap (λ (n : ℕ). n / 2 ^ k) whole ∙ quotient ∙ (rw stay (omega arith))
  where
    turned : (c r p q : ℕ) → c * p + r ≡ x → p * q ≡ 2 ^ 32 → joined a x ≡ a + p * (r * q + 2 ^ 32 * c)
    turned c r p q parts all =
        let s : p * (r * q + 2 ^ 32 * c) ≡ r * (p * q) + 2 ^ 32 * (c * p) = grind arith in
        let t : r * (p * q) ≡ 2 ^ 32 * r = rw all (omega arith) in
        omega arith

pub down_far : (a x k : ℕ) → a < 2 ^ 32 → joined a x / 2 ^ (k + 32) ≡ x / 2 ^ k
down_far a x k h =
    let e : joined a x / 2 ^ 32 / 2 ^ k ≡ joined a x / 2 ^ (32 + k) = shr-shr (joined a x) 32 k in
    let high : joined a x / 2 ^ 32 ≡ x = omega arith in
    let order : 32 + k ≡ k + 32 = omega arith in
    sym (sym (ap (λ (n : ℕ). n / 2 ^ k) high) ∙ e ∙ ap (λ (n : ℕ). joined a x / 2 ^ n) order)

pub fits_right : (a x k m : ℕ) → m + k ≡ 32 → a < 2 ^ 32 → a / 2 ^ k + x * 2 ^ m % 2 ^ 32 < 2 ^ 32
fits_right a x k m e h = let order : k + m ≡ 32 = omega arith in let f = fits_left x a m k order h in omega arith

-- ---- the same of words with all bits turned

pub turned_is : (a c r p q : ℕ) → c * p + r ≡ a → r < p → c < q → p * q - 1 - a ≡ (q - 1 - c) * p + (p - 1 - r)
turned_is a c r p q parts low few =
    let d = q - 1 - c in
    let whole : q ≡ c + d + 1 = omega arith in
    let out : p * (c + d + 1) ≡ c * p + d * p + p = grind arith in
    rw whole (by d out)
  where
    by : (d : ℕ) → p * (c + d + 1) ≡ c * p + d * p + p → p * (c + d + 1) - 1 - a ≡ (c + d + 1 - 1 - c) * p + (p - 1 - r)
    by d out = let same : c + d + 1 - 1 - c ≡ d = omega arith in rw same (omega arith)

pub turned_quotient : (a k m : ℕ) → a < 2 ^ (k + m) → (2 ^ (k + m) - 1 - a) / 2 ^ k ≡ 2 ^ m - 1 - a / 2 ^ k
turned_quotient a k m h =
    let all : 2 ^ (k + m) ≡ 2 ^ k * 2 ^ m = pow-add 2 k m in
    let parts : a / 2 ^ k * 2 ^ k + a % 2 ^ k ≡ a = div-add-mod' a (2 ^ k) in
    let low : a % 2 ^ k < 2 ^ k = mod_below a (2 ^ k) (pow_pos k) in
    let order : m + k ≡ k + m = omega arith in
    let few : a / 2 ^ k < 2 ^ m = shr_below a m k (rw order h) in
    let is = turned_is a (a / 2 ^ k) (a % 2 ^ k) (2 ^ k) (2 ^ m) parts low few in
    let e : 2 ^ (k + m) - 1 - a ≡ (2 ^ m - 1 - a / 2 ^ k) * 2 ^ k + (2 ^ k - 1 - a % 2 ^ k) = rw all is in
    ap (λ (n : ℕ). n / 2 ^ k) e ∙ div-mul-add (2 ^ m - 1 - a / 2 ^ k) (2 ^ k) (2 ^ k - 1 - a % 2 ^ k) (omega arith)

pub turned_rest : (a k m : ℕ) → a < 2 ^ (k + m) → (2 ^ (k + m) - 1 - a) % 2 ^ k ≡ 2 ^ k - 1 - a % 2 ^ k
turned_rest a k m h =
    let all : 2 ^ (k + m) ≡ 2 ^ k * 2 ^ m = pow-add 2 k m in
    let parts : a / 2 ^ k * 2 ^ k + a % 2 ^ k ≡ a = div-add-mod' a (2 ^ k) in
    let low : a % 2 ^ k < 2 ^ k = mod_below a (2 ^ k) (pow_pos k) in
    let order : m + k ≡ k + m = omega arith in
    let few : a / 2 ^ k < 2 ^ m = shr_below a m k (rw order h) in
    let is = turned_is a (a / 2 ^ k) (a % 2 ^ k) (2 ^ k) (2 ^ m) parts low few in
    let e : 2 ^ (k + m) - 1 - a ≡ (2 ^ m - 1 - a / 2 ^ k) * 2 ^ k + (2 ^ k - 1 - a % 2 ^ k) = rw all is in
    ap (λ (n : ℕ). n % 2 ^ k) e ∙ mod-mul-add (2 ^ m - 1 - a / 2 ^ k) (2 ^ k) (2 ^ k - 1 - a % 2 ^ k) (omega arith)

-- The rotations of std are sums of what stays in the word and what leaves it.
use Rattle.std.proofs.Common.{◌≡◌, ℕ, zero, suc, ◌+◌, ◌-◌, ◌*◌, ◌/◌, ◌%◌, ◌^◌, ◌<◌, bit_or, refl, ◌∙◌, arith, add_comm}
use Rattle.std.proofs.Math.Nat.{mul-mod_left, mod-eq_of_lt, div-eq_of_lt, div-one, mul-one, add-zero, mod_self}
use Rattle.std.proofs.lemmas.Nat.{mod-pow-add, shl-shr, or_shifted, or_comm, shr_below}
use Rattle.std.specs.Int.Bits.{or_self}

-- the two parts of a word of m + k bits share no bit
parts : (k m a : ℕ) → a < 2 ^ (m + k) → bit_or (a * 2 ^ k % 2 ^ (m + k)) (a / 2 ^ m) ≡ a * 2 ^ k % 2 ^ (m + k) + a / 2 ^ m
parts k m a h =
    let split = mod-pow-add (a * 2 ^ k) m k in
    let none : a * 2 ^ k % 2 ^ k ≡ 0 = mul-mod_left a (2 ^ k) in
    let whole : a * 2 ^ k / 2 ^ k ≡ a = shl-shr a k in
    let high : a * 2 ^ k % 2 ^ (m + k) ≡ a % 2 ^ m * 2 ^ k = split ∙ (rw (none, whole) (add-zero _)) in
    let small : a / 2 ^ m < 2 ^ k = shr_below a k m (rw (add_comm k m) h) in
    rw high (or_shifted (a % 2 ^ m) k (a / 2 ^ m) small)

-- no bit moves where the count is 0
stays : (n a : ℕ) → 0 < n → a < 2 ^ n → bit_or (a * 1 % 2 ^ n) (a / 2 ^ (n % n)) ≡ a * 1 % 2 ^ n + a / 2 ^ n
stays n a h fits =
    let same : a * 1 % 2 ^ n ≡ a = rw mul-one (mod-eq_of_lt fits) in
    let gone : a / 2 ^ n ≡ 0 = div-eq_of_lt fits in
    let none : n % n ≡ 0 = mod_self n in
    rw (same, gone, none) (rw (div-one, or_self, add-zero) refl)

pub rotl_is : (n a k : ℕ) → k < n → a < 2 ^ n → bit_or (a * 2 ^ k % 2 ^ n) (a / 2 ^ ((n - k) % n)) ≡ a * 2 ^ k % 2 ^ n + a / 2 ^ (n - k)
rotl_is n a zero h fits = let e : n - 0 ≡ n = omega arith in rw e (stays n a h fits)
rotl_is n a (suc k) h fits =
    let m = n - suc k in
    let e : m + suc k ≡ n = omega arith in
    let r : m % n ≡ m = mod-eq_of_lt (omega arith) in
    let p = parts (suc k) m a (rw e fits) in
    rw r (rw e at p)

pub rotr_is : (n a k : ℕ) → k < n → a < 2 ^ n → bit_or (a / 2 ^ k) (a * 2 ^ ((n - k) % n) % 2 ^ n) ≡ a / 2 ^ k + a * 2 ^ (n - k) % 2 ^ n
rotr_is n a zero h fits =
    let e : n - 0 ≡ n = omega arith in
    let none : n % n ≡ 0 = mod_self n in
    let gone : a * 2 ^ n % 2 ^ n ≡ 0 = mul-mod_left a (2 ^ n) in
    let same : a * 1 % 2 ^ n ≡ a = rw mul-one (mod-eq_of_lt fits) in
    rw (e, none, gone) (rw (div-one, same, or_self, add-zero) refl)
rotr_is n a (suc k) h fits =
    let m = n - suc k in
    let e : suc k + m ≡ n = omega arith in
    let r : m % n ≡ m = mod-eq_of_lt (omega arith) in
    let p = parts m (suc k) a (rw e fits) in
    let q = rw e at p in
    let up = a * 2 ^ m % 2 ^ n in
    let down = a / 2 ^ suc k in
    rw r (or_comm down up ∙ q ∙ add_comm up down)

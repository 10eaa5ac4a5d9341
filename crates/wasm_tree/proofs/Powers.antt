-- Bounds of numbers by their bits.
use Rattle.std.proofs.Common.{◌≡◌, ℕ, ◌+◌, ◌-◌, ◌*◌, ◌^◌, ◌<◌, ◌≤◌, ap, ◌∙◌, arith}
use Rattle.std.proofs.Math.Pow.{pow_mono}
use Rattle.std.proofs.lemmas.Nat.{pow-add}

pub low_bits : (bits b : ℕ) → 7 ≤ bits → b < 128 → b < 2 ^ bits
low_bits bits b h l = let p : 2 ^ 7 ≤ 2 ^ bits = pow_mono h in omega arith

pub positive_bits : (bits b : ℕ) → 7 ≤ bits → b < 64 → b < 2 ^ (bits - 1)
positive_bits bits b h l =
    let k : 6 ≤ bits - 1 = omega arith in
    let p : 2 ^ 6 ≤ 2 ^ (bits - 1) = pow_mono k in
    omega arith

pub negative_bits : (bits b : ℕ) → 7 ≤ bits → 64 ≤ b → 2 ^ 7 ≤ b + 2 ^ (bits - 1)
negative_bits bits b h l =
    let k : 6 ≤ bits - 1 = omega arith in
    let p : 2 ^ 6 ≤ 2 ^ (bits - 1) = pow_mono k in
    omega arith

pub high_bits : (bits : ℕ) → 7 < bits → 2 ^ bits ≡ 2 ^ (bits - 7) * 128
high_bits bits h = let e : bits ≡ bits - 7 + 7 = omega arith in ap (λ n. 2 ^ n) e ∙ pow-add 2 (bits - 7) 7

pub joined_below : (bits high b : ℕ) → 7 < bits → high < 2 ^ (bits - 7) → b < 256 → 128 * high + (b - 128) < 2 ^ bits
joined_below bits high b h l m = omega (arith, high_bits bits h)

pub fits_64 : (bits n : ℕ) → bits ≤ 64 → n < 2 ^ bits → n < 2 ^ 64
fits_64 bits n h l = let p : 2 ^ bits ≤ 2 ^ 64 = pow_mono h in omega arith

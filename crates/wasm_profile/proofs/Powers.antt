-- Powers of two, each twice the one before, up to one that is no less.
use Rattle.std.proofs.Common.{◌≡◌, ℕ, zero, suc, ◌+◌, ◌-◌, ◌*◌, ◌<◌, ◌≤◌, true, false, cond, refl, ap, ◌∙◌, arith}
use Rattle.std.specs.Prelude.{nat_le}
use Rattle.std.proofs.lemmas.Bool.Decides.{nat_tests}
use Rattle.wasm_lang_valid.specs.Profile.{doubled, padded}

unfoldable pub power_from : (turns power n : ℕ) → ℕ
power_from turns power n = doubled turns power n

pub from_one : (n : ℕ) → padded n ≡ power_from 32 1 n
unfolding power_from
from_one n = refl

-- this one
pub here : (turns power n : ℕ) → n ≤ power → power_from turns power n ≡ power
unfolding power_from
here zero power n h = refl
here (suc turns) power n h = let e : nat_le n power ≡ true = grind (arith, nat_tests) in ap (λ b. cond b power (doubled turns (power * 2) n)) e

-- .. or a later one
twice : (turns power n : ℕ) → power < n → power_from (suc turns) power n ≡ power_from turns (power * 2) n
unfolding power_from
twice turns power n h = let e : nat_le n power ≡ false = grind (arith, nat_tests) in ap (λ b. cond b power (doubled turns (power * 2) n)) e

pub next : (turn power n : ℕ) → turn < 32 → power < n → power_from (32 - turn) power n ≡ power_from (32 - (turn + 1)) (power * 2) n
next turn power n low h = let e : 32 - turn ≡ suc (32 - (turn + 1)) = omega (arith, low) in ap (λ k. power_from k power n) e ∙ twice (32 - (turn + 1)) power n h

pub last : (turn power n : ℕ) → 32 ≤ turn → power_from (32 - turn) power n ≡ power
unfolding power_from
last turn power n h = let e : 32 - turn ≡ 0 = omega (arith, h) in ap (λ k. power_from k power n) e

-- The length to which tables are padded is the least power of two that is no less than the table's.
use Rattle.std.proofs.Common.{◌≡◌, ℕ, zero, suc, ◌+◌, ◌*◌, ◌^◌, ◌<◌, ◌≤◌, Bool, true, false, cond, refl, sym, ap, ◌∙◌, subst, arith}
use Rattle.std.specs.Prelude.{nat_le}
use Rattle.std.proofs.lemmas.Bool.Decides.{nat_tests}
use Rattle.std.proofs.lemmas.Nat.{pow-add, pow_below}
use Rattle.wasm_lang.specs.Modules.{WasmModule}
use Rattle.wasm_lang_valid.specs.Profile.{table_length, doubled, padded, IsInProfile}
use Rattle.wasm2js_lang.proofs.Padded.{within_rows, few_entries}
use Rattle.wasm2js_lang.specs.Parts.Tables.{IsLeastPower}

no_less : (j k n : ℕ) → ((i : ℕ) → i < k → 2 ^ i < n) → n ≤ 2 ^ j → 2 ^ k ≤ 2 ^ j
no_less j k n small h = by (nat_le k j) refl
  where
    by : (b : Bool) → nat_le k j ≡ b → 2 ^ k ≤ 2 ^ j
    by true e = equal_or (nat_le j k) refl
      where
        equal_or : (b : Bool) → nat_le j k ≡ b → 2 ^ k ≤ 2 ^ j
        equal_or true f = let same : k ≡ j = grind (arith, nat_tests) in let p : 2 ^ k ≡ 2 ^ j = ap (λ k. 2 ^ k) same in omega (arith, p)
        equal_or false f = let low : k < j = grind (arith, nat_tests) in let p = pow_below k j low in omega (arith, p)
    by false e = let low : j < k = grind (arith, nat_tests) in let p = small j low in absurd (omega (arith, p, h))

here : (k power n : ℕ) → power ≡ 2 ^ k → n ≤ power → ((i : ℕ) → i < k → 2 ^ i < n) → IsLeastPower power n
here k power n e holds small = record { exponent = k; is_power = e; holds = holds; least = λ j h. subst (λ p. p ≤ 2 ^ j) (sym e) (no_less j k n small h) }

-- as many doublings as are allowed reach it
least_power : (turns k power n : ℕ) → power ≡ 2 ^ k → n ≤ 2 ^ (k + turns) → ((i : ℕ) → i < k → 2 ^ i < n) → IsLeastPower (doubled turns power n) n
least_power zero k power n e most small =
    let none : k + 0 ≡ k = omega arith in
    here k power n e (subst (λ p. n ≤ p) (sym e) (subst (λ k. n ≤ 2 ^ k) none most)) small
least_power (suc turns) k power n e most small = by (nat_le n power) refl (least_power turns (suc k) (power * 2) n twice (subst (λ k. n ≤ 2 ^ k) next most))
  where
    next : k + suc turns ≡ suc k + turns
    next = omega arith

    one_more : k + 1 ≡ suc k
    one_more = omega arith

    twice : power * 2 ≡ 2 ^ suc k
    twice = ap (λ p. p * 2) e ∙ sym (pow-add 2 k 1) ∙ ap (λ k. 2 ^ k) one_more

    by : (b : Bool) → nat_le n power ≡ b → (((i : ℕ) → i < suc k → 2 ^ i < n) → IsLeastPower (doubled turns (power * 2) n) n) → IsLeastPower (cond b power (doubled turns (power * 2) n)) n
    by true f more = let holds : n ≤ power = grind (arith, nat_tests) in here k power n e holds small
    by false f more = more (λ i low. smaller i low (nat_le k i) refl)
      where
        passed : power < n
        passed = grind (arith, nat_tests)

        smaller : (i : ℕ) → i < suc k → (b : Bool) → nat_le k i ≡ b → 2 ^ i < n
        smaller i low true g = let same : i ≡ k = grind (arith, nat_tests) in subst (λ p. p < n) (e ∙ ap (λ k. 2 ^ k) (sym same)) passed
        smaller i low false g = small i (grind (arith, nat_tests))

pub padded_is_least : (w : WasmModule) → IsInProfile w → IsLeastPower (padded (table_length w)) (table_length w)
padded_is_least w h =
    let few = few_entries w (within_rows w h.within).small in
    least_power 32 0 1 (table_length w) refl (omega (arith, few)) (λ i low. absurd (omega (arith, low)))

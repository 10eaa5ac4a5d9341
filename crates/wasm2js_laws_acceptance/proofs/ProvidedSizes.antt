-- How many cells a table has.
use Rattle.std.proofs.Common.{◌≡◌, ℕ, zero, suc, ◌*◌, ◌<◌, ◌≤◌, Bool, true, false, cond, refl, arith}
use Rattle.std.specs.Prelude.{◌^◌, nat_le}
use Rattle.std.proofs.lemmas.Bool.Decides.{nat_tests}
use Rattle.wasm_lang.specs.Modules.{WasmModule}
use Rattle.wasm_lang_valid.specs.Profile.{doubled, table_length}
use Rattle.wasm2js_lang.proofs.Padded.{few_entries}
use Rattle.wasm2js_translation.specs.Tables.{cell_count}
use Rattle.wasm2js_laws_acceptance.proofs.ProvidedWithin.{AreWithin}

some_doubled : (turns power n : ℕ) → 0 < power → 0 < doubled turns power n
some_doubled zero power n h = h
some_doubled (suc turns) power n h = by (nat_le n power) (some_doubled turns (power * 2) n (omega (arith, h)))
  where
    by : (b : Bool) → 0 < doubled turns (power * 2) n → 0 < cond b power (doubled turns (power * 2) n)
    by true k = h
    by false k = k

-- a power that is doubled so often
abbrev top : ℕ → ℕ → ℕ
top zero power = power
top (suc turns) power = top turns (power * 2)

below_top : (turns power : ℕ) → power ≤ top turns power
below_top zero power = omega arith
below_top (suc turns) power = let h = below_top turns (power * 2) in omega (arith, h)

few_doubled : (turns more power n most : ℕ) → top more power ≡ most → n ≤ most → doubled turns power n ≤ most
few_doubled zero more power n most e h = let k = below_top more power in omega (arith, e, k)
few_doubled (suc turns) zero power n most e h = by (nat_le n power) refl
  where
    over : nat_le n power ≡ false → power < n
    over e = grind (arith, nat_tests)

    by : (b : Bool) → nat_le n power ≡ b → cond b power (doubled turns (power * 2) n) ≤ most
    by true f = omega (arith, e)
    by false f = let l = over f in absurd (omega (arith, l, e, h))
few_doubled (suc turns) (suc more) power n most e h = by (nat_le n power) (few_doubled turns more (power * 2) n most e h)
  where
    by : (b : Bool) → doubled turns (power * 2) n ≤ most → cond b power (doubled turns (power * 2) n) ≤ most
    by true k = let l = below_top (suc more) power in omega (arith, e, l)
    by false k = k

pub some_cells : (w : WasmModule) → 0 < cell_count w
some_cells w = some_doubled 32 1 (table_length w) (omega arith)

pub few_cells : (w : WasmModule) → AreWithin w → cell_count w ≤ 2 ^ 16
few_cells w h = few_doubled 32 16 1 (table_length w) 65536 refl (few_entries w h.sizes)

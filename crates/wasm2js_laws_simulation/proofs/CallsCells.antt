-- A table: how an index is masked, and what stands at it.
use Rattle.std.proofs.Common.{◌≡◌, ℕ, zero, suc, ◌*◌, ◌^◌, ◌<◌, ◌≤◌, Bool, true, false, List, [], ◌∷◌, map, replicate, length, Option, Some, None, pos, cond, refl, sym, ap, ◌∙◌, subst, arith}
use Rattle.std.specs.Prelude.{◌-◌, ◌%◌, ◌-ℤ◌, nat_le, nat_lt, slice_get, if◌then◌else◌}
use Rattle.std.specs.Int.Bits.{bit_and}
use Rattle.std.proofs.lemmas.Nat.{and_mask}
use Rattle.std.proofs.lemmas.List.{length-append, length-map}
use Rattle.std.proofs.lemmas.Option.{slice_get_past}
use Rattle.std.proofs.lemmas.Bool.Decides.{nat_tests}
use Rattle.sem_words.specs.declared.js_value.JsValue.TheVariants.{Whole}
use Rattle.sem_words.specs.JsValues.{to_uint32_of}
use Rattle.sem_words.specs.JsOperators.{signed_value}
use Rattle.sem_words.specs.Words.{signed_of}
use Rattle.wasm_lang.specs.Modules.{FunctionType, WasmModule}
use Rattle.wasm_lang_valid.specs.Profile.{doubled, padded, table_length, IsInProfile}
use Rattle.wasm2js_lang.specs.Tables.{Cell, empty, cell, entries_of, cells_of}
use Rattle.wasm2js_lang.proofs.Masked.{cells_are_of_entries}
use Rattle.wasm2js_lang.proofs.Padded.{cells_are_padded}
use Rattle.wasm2js_translation.specs.Tables.{cell_count}
use Rattle.wasm2js_laws_acceptance.proofs.ProvidedSizes.{few_cells}
use Rattle.wasm2js_laws_acceptance.proofs.ProvidedWithin.{rows_are_within}

-- ---- a table has 2 ^ k cells

record IsPower (n : ℕ) : Type 0 where
  exponent : ℕ
  is_power : n ≡ 2 ^ exponent

twice : (k : ℕ) → 2 ^ k * 2 ≡ 2 ^ suc k
twice k = omega arith

doubled_power : (turns k n : ℕ) → IsPower (doubled turns (2 ^ k) n)
doubled_power zero k n = record { exponent = k; is_power = refl }
doubled_power (suc turns) k n = by (nat_le n (2 ^ k)) (subst (λ m. IsPower (doubled turns m n)) (sym (twice k)) (doubled_power turns (suc k) n))
  where
    by : (b : Bool) → IsPower (doubled turns (2 ^ k * 2) n) → IsPower (cond b (2 ^ k) (doubled turns (2 ^ k * 2) n))
    by true h = record { exponent = k; is_power = refl }
    by false h = h

padded_power : (n : ℕ) → IsPower (padded n)
padded_power n = doubled_power 32 0 n

signed_small : (x : ℕ) → x < 2 ^ 31 → signed_of 32 x ≡ pos x
signed_small x h = let e : nat_lt x (2 ^ 31) ≡ true = grind (arith, nat_tests) in ap (λ b. if b then pos x else pos x -ℤ pos (2 ^ 32)) e

-- an index below the cells is masked to itself
pub index_masked : (w : WasmModule) → IsInProfile w → (x : ℕ) → x < cell_count w → signed_value (bit_and x (to_uint32_of (Whole (pos (cell_count w - 1))))) ≡ Whole (pos x)
index_masked w h x low =
    let power = padded_power (table_length w) in
    let few = few_cells w (rows_are_within w h.within) in
    let is = power.is_power in
    let mask : (cell_count w - 1) % 2 ^ 32 ≡ cell_count w - 1 = omega (arith, few) in
    let below : x < 2 ^ power.exponent = subst (λ n. x < n) is low in
    ap (λ n. signed_value (bit_and x n)) mask
    ∙ ap (λ n. signed_value (bit_and x (n - 1))) is
    ∙ ap signed_value (and_mask x power.exponent)
    ∙ ap signed_value (small x (2 ^ power.exponent) below)
    ∙ ap Whole (signed_small x (omega (arith, low, few)))
  where
    small : (a n : ℕ) → a < n → a % n ≡ a
    small a n h = grind arith

-- ---- what stands at an index

module _ (w : WasmModule) (h : IsInProfile w) (t : FunctionType) where
  length_entries : length (entries_of w) ≡ table_length w
  length_entries = (cells_are_padded w t h).entries

  abbrev pub cell_for : Option (Option ℕ) → Cell
  cell_for None = empty
  cell_for (Some e) = cell w t e

  -- as the entries say, and past them nothing
  pub cell_there : (x : ℕ) → x < cell_count w → slice_get (cells_of w t) x ≡ Some (cell_for (slice_get (entries_of w) x))
  cell_there x low = by (slice_get (entries_of w) x) refl
    where
      by : (o : Option (Option ℕ)) → slice_get (entries_of w) x ≡ o → slice_get (cells_of w t) x ≡ Some (cell_for o)
      by None e = (cells_are_padded w t h).past x (let k = none_within (entries_of w) x e in let l = length_entries in omega (arith, k, l)) low
        where
          none_within : (xs : List (Option ℕ)) (x : ℕ) → slice_get xs x ≡ None → length xs ≤ x
          none_within [] x e = omega arith
          none_within (y ∷ ys) zero e = cc e
          none_within (y ∷ ys) (suc x) e = let k = none_within ys x e in omega (arith, k)
      by (Some c) e = cells_are_of_entries w t x c e

  -- an index past the cells is past the entries
  pub none_past : (x : ℕ) → cell_count w ≤ x → slice_get (entries_of w) x ≡ None
  none_past x high =
      let long = (cells_are_padded w t h).long in
      let joined = length-append (map (cell w t) (entries_of w)) (replicate (padded (table_length w) - length (entries_of w)) empty) in
      let mapped = length-map (entries_of w) (cell w t) in
      slice_get_past (entries_of w) x (omega (arith, long, joined, mapped, high))

-- ---- tests

pub is_less : (a b : ℕ) → nat_lt a b ≡ true → a < b
is_less a b h = grind (arith, nat_tests)

pub is_no_less : (a b : ℕ) → nat_lt a b ≡ false → b ≤ a
is_no_less a b h = grind (arith, nat_tests)

-- Chains of bound imports, step by step. What isn't bound stays where it is, so that a chain can be followed for any number of steps.
use Rattle.std.specs.Prelude.{◌≡◌, ℕ, zero, suc, ◌≤◌, List, length, Option, slice_get}
use Rattle.std.specs.Option.{unwrap_or}
use Rattle.wasm_link_lang.specs.Pairs.{bound}

-- what the function at an address is bound to, else itself
unfoldable pub step : List (Option ℕ) → ℕ → ℕ
step next a = unwrap_or (bound (slice_get next a)) a

-- .. so many times
unfoldable pub again : List (Option ℕ) → ℕ → ℕ → ℕ
again next zero a = a
again next (suc n) a = again next n (step next a)

-- what a table has at a place: the place itself past its end
unfoldable pub at : List ℕ → ℕ → ℕ
at table a = unwrap_or (slice_get table a) a

-- the table has what each address leads to after so many steps, or more, the same count for all
pub record Ends (next : List (Option ℕ)) (steps : ℕ) (table : List ℕ) : Type 0 where
  pub reach : ℕ
  pub count : length table ≡ length next
  pub enough : steps ≤ reach
  pub leads : (a : ℕ) → at table a ≡ again next reach a

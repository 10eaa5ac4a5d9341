-- What the code keeps of a pair's bindings.
use Rattle.std.specs.Prelude.{◌≡◌, ℕ, List, Option}
use Rattle.wasm_link_lang.specs.Pairs.{Pair, first_bindings, second_bindings, bindings, import_count}
use Rattle.wasm_link_bind.specs.Chains.{Ends}

pub record AreBindings (w : Pair) (of_first of_second of_both : List (Option ℕ)) (table : List ℕ) : Type 0 where
  pub first : of_first ≡ first_bindings w
  pub second : of_second ≡ second_bindings w
  pub next : of_both ≡ bindings w
  pub ends : Ends (bindings w) (import_count w) table

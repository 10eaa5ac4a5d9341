-- What the code keeps of the numbers of a pair.
use Rattle.std.specs.Prelude.{◌≡◌, ℕ, List, slice_get}
use Rattle.wasm_link_lang.specs.Pairs.{Pair}
use Rattle.wasm_link_code.specs.Linked.{last_function}
use Rattle.wasm_link_code.specs.Numbers.{number, global_number, or_zero}

pub record AreNumbers (w : Pair) (all : ℕ) (of_functions of_globals : List ℕ) : Type 0 where
  pub count : all ≡ last_function w
  pub functions : (a : ℕ) → or_zero (slice_get of_functions a) ≡ number w a
  pub globals : (g : ℕ) → or_zero (slice_get of_globals g) ≡ global_number w g

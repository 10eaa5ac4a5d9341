use Rattle.std.proofs.Common.{◌≡◌, ℕ, drop, map, Option}
use Rattle.wasm_tree.specs.Views.{type_of}
use Rattle.wasm_lang_valid.specs.Profile.{params_past}
use Rattle.wasm_profile.proofs.sizes.params_past.Given as goal

abbrev pub invariant-loop-t : goal.invariant-loop-t
invariant-loop-t l = (other : Option ℕ) → params_past (map type_of l.types) other ≡ params_past (map type_of (drop l.t-index l.types)) other

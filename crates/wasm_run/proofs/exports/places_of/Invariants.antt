use Rattle.std.proofs.Common.{◌≡◌, ◌≤◌, ◌+◌, ℕ, List, length, drop, map}
use Rattle.std.specs.Prelude.{option_map}
use Rattle.script_lines.specs.GlobalLines.{found}
use Rattle.wasm_tree.specs.Views.{export_of}
use Rattle.wasm_run.specs.Exports.{place_named}
use Rattle.wasm_run.proofs.exports.places_of.Given as goal

abbrev pub invariant-loop-i : goal.invariant-loop-i
invariant-loop-i l = record {
  within : l.i ≤ length l.exports;
  put : (n : List ℕ) → found l.places n ≡ option_map (λ k. l.i + k) (place_named (map export_of (drop l.i l.exports)) n);
}

abbrev pub decreases-loop-i : goal.decreases-loop-i
decreases-loop-i l = l.i

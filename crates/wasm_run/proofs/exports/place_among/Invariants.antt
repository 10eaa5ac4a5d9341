use Rattle.std.proofs.Common.{◌≡◌, ◌+◌, drop, map}
use Rattle.std.specs.Prelude.{option_map}
use Rattle.wasm_tree.specs.Views.{export_of}
use Rattle.wasm_run.specs.Exports.{place_named}
use Rattle.wasm_run.proofs.exports.place_among.Given as goal

abbrev pub invariant-loop-i : goal.invariant-loop-i
invariant-loop-i l = place_named (map export_of l.exports) l.name ≡ option_map (λ k. l.i + k) (place_named (map export_of (drop l.i l.exports)) l.name)

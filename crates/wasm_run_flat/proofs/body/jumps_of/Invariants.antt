use Rattle.std.proofs.Common.{◌≡◌, drop}
use Rattle.std.specs.Prelude.{map, reverse}
use Rattle.wasm_tree.specs.Views.{instr_of}
use Rattle.wasm_run_flat.specs.Jumps as places
use Rattle.wasm_run_flat.proofs.body.jumps_of.Given as goal

abbrev pub invariant-loop-at : goal.invariant-loop-at
invariant-loop-at l = record {
  open_blocks : reverse l.closings.items ≡ places.closings l.at (drop l.at (map instr_of l.code));
  jumps : reverse l.jumps.items ≡ places.jumps_from l.at (drop l.at (map instr_of l.code));
}

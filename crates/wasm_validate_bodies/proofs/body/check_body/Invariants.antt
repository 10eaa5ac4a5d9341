use Rattle.std.proofs.Common.{◌≡◌, ◌<◌, ◌^◌, max, take, drop}
use Rattle.std.specs.Prelude.{map, Ok}
use Rattle.wasm_tree.specs.Views.{instr_of}
use Rattle.wasm_lang_valid.specs.Measures.{peak}
use Rattle.wasm_lang_valid.specs.State.{steps, at_start}
use Rattle.wasm_validate_bodies.specs.Scopes.{outside}
use Rattle.wasm_validate_bodies.proofs.body.check_body.Given as goal

abbrev pub invariant-loop-i : goal.invariant-loop-i
invariant-loop-i l = record {
  pass : steps (outside l.scope) (at_start l.scope.result) (take l.i (map instr_of l.code)) ≡ Ok l.blocks;
  peak : peak (outside l.scope) (at_start l.scope.result) (map instr_of l.code) ≡ max l.most (peak (outside l.scope) l.blocks (map instr_of (drop l.i l.code)));
  fits : l.most < 2 ^ 63;
}

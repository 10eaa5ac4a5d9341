use Rattle.std.proofs.Common.{◌≡◌, ◌≤◌, length, take}
use Rattle.std.specs.Prelude.{reverse}
use Rattle.wasm_lang_valid.specs.State.{take_all}
use Rattle.wasm_validate_bodies.specs.Blocks.{over, IsKept}
use Rattle.wasm_validate_bodies.proofs.operands.pop_params.Given as goal

abbrev pub invariant-loop-i : goal.invariant-loop-i
invariant-loop-i l = record {
  in_range : l.i ≤ length l.params;
  kept : IsKept l.height l.fn.operands.items l.operands.items;
  value : take_all (reverse l.params) l.endless (over l.height l.fn.operands.items) ≡ take_all (reverse (take l.i l.params)) l.endless (over l.height l.operands.items);
}

abbrev pub decreases-loop-i : goal.decreases-loop-i
decreases-loop-i l = l.i

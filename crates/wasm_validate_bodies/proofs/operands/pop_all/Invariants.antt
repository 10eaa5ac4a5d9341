use Rattle.std.proofs.Common.{◌≡◌, drop}
use Rattle.wasm_lang_valid.specs.State.{take_all}
use Rattle.wasm_validate_bodies.specs.Blocks.{over, IsKept}
use Rattle.wasm_validate_bodies.proofs.operands.pop_all.Given as goal

abbrev pub invariant-loop-t : goal.invariant-loop-t
invariant-loop-t l = record {
  kept : IsKept l.height l.fn.operands.items l.operands.items;
  value : take_all l.takes l.endless (over l.height l.fn.operands.items) ≡ take_all (drop l.t-index l.takes) l.endless (over l.height l.operands.items);
}

use Rattle.std.proofs.Common.{◌≡◌, drop}
use Rattle.wasm2js_operands.specs.Operands.{over, IsKept}
use Rattle.wasm2js_operands.proofs.operands.remove.Given as goal

abbrev pub invariant-loop-turn : goal.invariant-loop-turn
invariant-loop-turn l = record {
  kept : IsKept l.base l.fn.types.items l.types.items;
  value : over l.base l.types.items ≡ drop l.turn (over l.base l.fn.types.items);
}

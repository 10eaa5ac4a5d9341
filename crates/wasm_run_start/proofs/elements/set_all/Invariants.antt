use Rattle.std.proofs.Common.{◌≡◌, length, take, map, Some}
use Rattle.wasm_run_start.proofs.elements.set_all.Given as goal

abbrev pub invariant-loop-k : goal.invariant-loop-k
invariant-loop-k l = record {
  sizes : length l.entries ≡ length l.functions;
  done : take l.k l.entries ≡ map Some (take l.k l.functions);
}

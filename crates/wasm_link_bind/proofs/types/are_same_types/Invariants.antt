use Rattle.std.proofs.Common.{◌≡◌, length, drop}
use Rattle.wasm_lang_exec.specs.Reductions.{same_types}
use Rattle.wasm_link_bind.proofs.types.are_same_types.Given as goal

abbrev pub invariant-loop-k : goal.invariant-loop-k
invariant-loop-k l = record {
  rest : same_types l.first l.second ≡ same_types (drop l.k l.first) (drop l.k l.second);
  lengths : length l.first ≡ length l.second;
}

use Rattle.std.proofs.Common.{◌≡◌, ◌++◌, reverse, take}
use Rattle.wasm_run.proofs.session.push_all.Given as goal

abbrev pub invariant-loop-word : goal.invariant-loop-word
invariant-loop-word l = record {
  values : l.operands.values ≡ reverse (take l.word-index l.words) ++ l.fn.operands.values;
  below : l.operands.below ≡ l.fn.operands.below;
}

use Rattle.std.proofs.Common.{length}
use Rattle.asm2wasm_numbers.proofs.Counted.{none_found}
use Rattle.asm2wasm_numbers.proofs.calls.CallNumbers.new.Goals as goal

pub invariant_of-result : goal.invariant_of-result
invariant_of-result c = record {
  known = λ k. c.in_ok-put_calls.ensures k (none_found _ k (length c.args.calls.now) c.in_ok-numbers.ensures.empty);
}

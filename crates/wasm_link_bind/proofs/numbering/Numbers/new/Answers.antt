use Rattle.std.proofs.Common.{ap}
use Rattle.std.specs.Prelude.{slice_get}
use Rattle.wasm_link_code.specs.Numbers.{or_zero, global_number}
use Rattle.wasm_link_bind.proofs.numbering.Numbers.new.Goals as goal

pub invariant_of-result : goal.invariant_of-result
unfolding global_number
invariant_of-result c = record {
  count = c.function_count-count.ensures;
  functions = c.in_ok-functions.ensures;
  globals = λ g. ap (λ l. or_zero (slice_get l g)) c.in_ok-globals.ensures;
}

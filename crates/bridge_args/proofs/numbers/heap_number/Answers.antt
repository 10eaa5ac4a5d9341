use Rattle.std.proofs.Common.{◌∙◌, sym}
use Rattle.bridge_args.proofs.NumberLemmas.{heap_words}
use Rattle.bridge_args.proofs.numbers.heap_number.Goals as goal

-- src/numbers.rt:49:42
pub invariant_of-result : goal.invariant_of-result
invariant_of-result c = record { allowed = sym c.is_heap.ensures ∙ c.if-is_heap.true; fits = heap_words _ (sym c.is_heap.ensures ∙ c.if-is_heap.true) }

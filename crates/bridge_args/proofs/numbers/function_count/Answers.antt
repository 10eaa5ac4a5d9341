use Rattle.std.proofs.Common.{◌∙◌, sym}
use Rattle.bridge_args.proofs.NumberLemmas.{gen_count_few}
use Rattle.bridge_args.proofs.numbers.function_count.Goals as goal

pub invariant_of-result : goal.invariant_of-result
invariant_of-result c = record {
  allowed = sym c.is_gen_count.ensures ∙ c.if-is_gen_count.true;
  few = gen_count_few _ (sym c.is_gen_count.ensures ∙ c.if-is_gen_count.true);
}

use Rattle.std.proofs.Common.{◌∙◌}
use Rattle.asm2wasm_numbers.proofs.module.ModuleNumbers.new.Goals as goal

pub invariant_of-result : goal.invariant_of-result
invariant_of-result c = record {
  home_is = c.in_ok-environment.ensures.of ∙ c.«module».ensures.given;
  complete = c.in_ok-environment.ensures.complete;
  named = c.in_ok-names.ensures;
  typed = c.in_ok-types.ensures;
  bases_are = c.in_ok-plan.ensures.bases;
  entries_are = c.in_ok-plan.ensures.entries;
}

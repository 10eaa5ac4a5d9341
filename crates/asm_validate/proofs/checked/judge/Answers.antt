use Rattle.asm_tree.specs.Views.{module_view}
use Rattle.asm_validate.proofs.InOrder.{few_functions}
use Rattle.asm_validate.proofs.checked.judge.Goals as goal

pub facts_of-requires : goal.facts_of-requires
facts_of-requires c = few_functions (module_view c.args.«module») c.in_ok-foreign_calls.ensures.exactly

use Rattle.asm_tree.specs.Views.{module_view}
use Rattle.cmd_check_asm.proofs.counting.counts.Goals as goal

pub returns-in-Ok-clause-counted : goal.returns-in-Ok-clause-counted
returns-in-Ok-clause-counted c = record { «module» = module_view c.in_ok-checked.checked; accepted = c.in_ok-checked.ensures.accepted; counted = c.in-Ok.ensures }

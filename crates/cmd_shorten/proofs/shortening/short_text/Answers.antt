use Rattle.asm_tree.specs.Views.{module_view}
use Rattle.cmd_shorten.proofs.shortening.short_text.Goals as goal

pub returns-in-Ok-clause-made : goal.returns-in-Ok-clause-made
returns-in-Ok-clause-made c = record { «module» = module_view c.in_ok-checked.checked; accepted = c.in_ok-checked.ensures.accepted; shortened = c.in-Ok.ensures }

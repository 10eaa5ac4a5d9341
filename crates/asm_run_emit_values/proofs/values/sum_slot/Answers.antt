use Rattle.std.proofs.Common.{◌∙◌}
use Rattle.asm_run_emit_values.proofs.Parts.{sum_slot_last, sum_slot_before}
use Rattle.asm_run_emit_values.proofs.values.sum_slot.Goals as goal

pub returns-in-None : goal.returns-in-None
returns-in-None c = c.into.ensures ∙ sum_slot_last c.args.wanted c.args.free c.args.links.now c.in-None.ensures.value

pub returns-in-Some : goal.returns-in-Some
returns-in-Some c = sum_slot_before c.args.wanted c.args.free c.args.links.now c.in-Some.field-0.now c.in-Some.ensures.value

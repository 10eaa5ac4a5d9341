use Rattle.std.proofs.Common.{◌∙◌}
use Rattle.asm_tree.specs.Views.{expr_view}
use Rattle.asm_run_code.specs.Names.{local}
use Rattle.asm_run_names.specs.Names.{scope_said}
use Rattle.asm_run_emit_values.proofs.Parts.{first_stays, none_stays}
use Rattle.asm_run_emit_values.proofs.values.stays.Goals as goal

pub returns-in-Some : goal.returns-in-Some
returns-in-Some c =
    let s = scope_said c.args.names.now in
    c.stays_before.ensures ∙ first_stays s (local s (expr_view c.args.first.now)) c.args.links.now c.in-Some.link.now c.in-Some.ensures.value

pub returns-in-None : goal.returns-in-None
returns-in-None c =
    let s = scope_said c.args.names.now in
    none_stays s (local s (expr_view c.args.first.now)) c.args.links.now c.in-None.ensures.value

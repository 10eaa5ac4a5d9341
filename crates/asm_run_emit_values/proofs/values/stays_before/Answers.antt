use Rattle.std.proofs.Common.{ap, ◌∙◌}
use Rattle.asm_tree.specs.Views.{expr_view}
use Rattle.asm_run_code.specs.Names.{local}
use Rattle.asm_run_code.specs.Values.{stays_by}
use Rattle.asm_run_names.specs.Names.{scope_said}
use Rattle.asm_run_emit_values.proofs.values.stays_before.Goals as goal

pub returns : goal.returns
returns c = c.place_before.ensures ∙ ap (λ s. stays_by s (local (scope_said c.args.names.now) (expr_view c.args.first.now))) c.seat_of-seat.ensures

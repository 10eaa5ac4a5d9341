use Rattle.asm_tree.specs.Views.{expr_view, clauses_view}
use Rattle.asm_run_emit_bodies.proofs.Made.{chosen_made}
use Rattle.asm_run_names.specs.Names.{scope_said}
use Rattle.asm_run_emit_bodies.proofs.statements.emit_choice.Goals as goal

pub returns : goal.returns
returns c =
    chosen_made c.emit_operand.result c.emit_operand.new.output (scope_said c.args.names.now) c.args.free c.args.output.now (clauses_view c.args.clauses.now) c.args.starts.now (expr_view c.args.subject.now) c.local-place.result c.into-slot.result c.dispatch.new.output c.local-place.ensures c.into-slot.ensures c.in_ok-dispatch.ensures c.emit_operand.ensures

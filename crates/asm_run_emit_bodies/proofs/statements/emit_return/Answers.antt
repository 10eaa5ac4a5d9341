use Rattle.std.proofs.Common.{Option, Some, None, [], ap}
use Rattle.asm_lang.specs.Modules.{returns}
use Rattle.asm_tree.specs.declared.tree.Expr.{Expr}
use Rattle.asm_tree.specs.Views.{expr_view, expr_option}
use Rattle.asm_run_names.specs.Names.{scope_said}
use Rattle.asm_run_emit_bodies.proofs.Made.{as_form, none_made, some_made}
use Rattle.asm_run_emit_bodies.proofs.statements.emit_return.Goals as goal

pub returns-in_ok-put-in-None : goal.returns-in_ok-put-in-None
returns-in_ok-put-in-None c =
    as_form c.put-in-None.result c.put-in-None.new.self (scope_said c.args.names.now) [] [] c.args.free c.args.output.now (returns (expr_option c.args.value.now)) (returns None) (ap (λ (v : Option Expr). returns (expr_option v)) c.in-None.is)
    (none_made c.put-in-None.result c.put-in-None.new.self (scope_said c.args.names.now) [] [] c.args.free c.args.output.now c.put.new.self c.in_ok-put-in-None.ensures c.put-in-None.ensures)

pub returns-in_ok-put-in-Some : goal.returns-in_ok-put-in-Some
returns-in_ok-put-in-Some c =
    as_form c.emit_operand.result c.emit_operand.new.output (scope_said c.args.names.now) [] [] c.args.free c.args.output.now (returns (expr_option c.args.value.now)) (returns (Some (expr_view c.in-Some.value))) (ap (λ (v : Option Expr). returns (expr_option v)) c.in-Some.is)
    (some_made c.emit_operand.result c.emit_operand.new.output (scope_said c.args.names.now) [] [] c.args.free c.args.output.now (expr_view c.in-Some.value) c.local-place.result c.into-from.result c.put-in-Some.new.self c.local-place.ensures c.into-from.ensures c.in_ok-put-in-Some.ensures c.emit_operand.ensures)

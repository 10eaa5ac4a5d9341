use Rattle.std.proofs.Common.{ap, sym, ◌∙◌}
use Rattle.asm_lang.specs.Modules.{Expr}
use Rattle.asm_tree.specs.Views.{expr_view}
use Rattle.asm_tree.proofs.Views.{expr_view-Var, expr_view-Binary, expr_view-Decimal, expr_view-Index, expr_view-Call, expr_view-TableCall, expr_view-Assign, expr_view-Store, expr_view-Unary, expr_view-Chain, expr_view-Cond, expr_view-Comma}
use Rattle.asm_run_code.specs.Names.{seat_at, seat, local}
use Rattle.asm_run_names.specs.Names.{scope_said}
use Rattle.asm_run_emit_values.proofs.operands.seat_of.Goals as goal

pub returns-in-Var : goal.returns-in-Var
returns-in-Var c =
    let form = ap expr_view c.in-Var.is ∙ expr_view-Var _ in
    c.seat_in.ensures ∙ ap (λ (e : Expr). seat_at (local (scope_said c.args.names.now) e)) form ∙ sym (ap (seat (scope_said c.args.names.now)) form)

pub returns-in-Binary : goal.returns-in-Binary
returns-in-Binary c =
    let form = ap expr_view c.in-Binary.is ∙ expr_view-Binary _ _ _ in
    c.seat_in-in-Binary.ensures ∙ ap (λ (e : Expr). seat_at (local (scope_said c.args.names.now) e)) form ∙ sym (ap (seat (scope_said c.args.names.now)) form)

pub returns-in-Decimal : goal.returns-in-Decimal
returns-in-Decimal c = sym (ap (seat (scope_said c.args.names.now)) (ap expr_view c.in-Decimal.is ∙ expr_view-Decimal _))

pub returns-in-Index : goal.returns-in-Index
returns-in-Index c = sym (ap (seat (scope_said c.args.names.now)) (ap expr_view c.in-Index.is ∙ expr_view-Index _ _))

pub returns-in-Call : goal.returns-in-Call
returns-in-Call c = sym (ap (seat (scope_said c.args.names.now)) (ap expr_view c.in-Call.is ∙ expr_view-Call _ _))

pub returns-in-TableCall : goal.returns-in-TableCall
returns-in-TableCall c = sym (ap (seat (scope_said c.args.names.now)) (ap expr_view c.in-TableCall.is ∙ expr_view-TableCall _ _ _))

pub returns-in-Assign : goal.returns-in-Assign
returns-in-Assign c = sym (ap (seat (scope_said c.args.names.now)) (ap expr_view c.in-Assign.is ∙ expr_view-Assign _ _))

pub returns-in-Store : goal.returns-in-Store
returns-in-Store c = sym (ap (seat (scope_said c.args.names.now)) (ap expr_view c.in-Store.is ∙ expr_view-Store _ _ _))

pub returns-in-Unary : goal.returns-in-Unary
returns-in-Unary c = sym (ap (seat (scope_said c.args.names.now)) (ap expr_view c.in-Unary.is ∙ expr_view-Unary _ _))

pub returns-in-Chain : goal.returns-in-Chain
returns-in-Chain c = sym (ap (seat (scope_said c.args.names.now)) (ap expr_view c.in-Chain.is ∙ expr_view-Chain _ _))

pub returns-in-Cond : goal.returns-in-Cond
returns-in-Cond c = sym (ap (seat (scope_said c.args.names.now)) (ap expr_view c.in-Cond.is ∙ expr_view-Cond _ _ _))

pub returns-in-Comma : goal.returns-in-Comma
returns-in-Comma c = sym (ap (seat (scope_said c.args.names.now)) (ap expr_view c.in-Comma.is ∙ expr_view-Comma _))

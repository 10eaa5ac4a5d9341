use Rattle.std.proofs.Common.{ap, sym, ◌∙◌}
use Rattle.asm_tree.specs.Views.{expr_view}
use Rattle.asm_tree.proofs.Views.{expr_view-Decimal, expr_view-Var, expr_view-Index, expr_view-Call, expr_view-TableCall, expr_view-Unary, expr_view-Chain, expr_view-Cond}
use Rattle.asm_run_emit_values.proofs.Shapes.{comma_is}
use Rattle.asm2wasm_translation.specs.Values.{is_unsigned}
use Rattle.asm_run_emit_values.proofs.Signs.{of_last, of_none}
use Rattle.asm_run_emit_values.proofs.forms.+is_unsigned.Goals as goal

pub returns-in-Some : goal.returns-in-Some
returns-in-Some t c =
    c.is_unsigned-in-Some.ensures ∙ of_last c.as_slice.result.now c.in-Some.part.now c.in-Some.ensures.value
    ∙ ap is_unsigned (sym (comma_is c.args.expr.now _ _ c.in-Comma.is c.as_slice.ensures))

pub returns-in-None : goal.returns-in-None
returns-in-None t c = of_none c.as_slice.result.now c.in-None.ensures.value ∙ ap is_unsigned (sym (comma_is c.args.expr.now _ _ c.in-Comma.is c.as_slice.ensures))

pub returns-in-Decimal : goal.returns-in-Decimal
returns-in-Decimal t c = sym (ap is_unsigned (ap expr_view c.in-Decimal.is ∙ expr_view-Decimal _))

pub returns-in-Var : goal.returns-in-Var
returns-in-Var t c = sym (ap is_unsigned (ap expr_view c.in-Var.is ∙ expr_view-Var _))

pub returns-in-Index : goal.returns-in-Index
returns-in-Index t c = sym (ap is_unsigned (ap expr_view c.in-Index.is ∙ expr_view-Index _ _))

pub returns-in-Call : goal.returns-in-Call
returns-in-Call t c = sym (ap is_unsigned (ap expr_view c.in-Call.is ∙ expr_view-Call _ _))

pub returns-in-TableCall : goal.returns-in-TableCall
returns-in-TableCall t c = sym (ap is_unsigned (ap expr_view c.in-TableCall.is ∙ expr_view-TableCall _ _ _))

pub returns-in-Unary : goal.returns-in-Unary
returns-in-Unary t c = sym (ap is_unsigned (ap expr_view c.in-Unary.is ∙ expr_view-Unary _ _))

pub returns-in-Chain : goal.returns-in-Chain
returns-in-Chain t c = sym (ap is_unsigned (ap expr_view c.in-Chain.is ∙ expr_view-Chain _ _))

pub returns-in-Cond : goal.returns-in-Cond
returns-in-Cond t c = sym (ap is_unsigned (ap expr_view c.in-Cond.is ∙ expr_view-Cond _ _ _))

use Rattle.std.proofs.Common.{rules, ◌+◌, ap}
use Rattle.asm_tree.specs.Views.{module_view}
use Rattle.asm_names.specs.Scopes.{scope_view}
use Rattle.asm_validate_labels.specs.Arounds.{around_view}
use Rattle.asm_validate_names.specs.declared.refusal.AsmRefusal.TheVariants.{Refused}
use Rattle.asm_validate_names.proofs.Order.{err_row}
use Rattle.asm_validate_stmts.proofs.Bodies.{top_is, in_locals, in_body, in_count}
use Rattle.asm_validate_stmts.proofs.functions.function_typed.Goals as goal

pub returns-in_err-locals_typed-clause-row : goal.returns-in_err-locals_typed-clause-row
returns-in_err-locals_typed-clause-row c =
    err_row c.from_residual.result _ (Refused c.in_err-locals_typed.field-0.0.rule c.in_err-locals_typed.field-0.0.node) (search rules)
    (in_locals (module_view c.args.environment.now.home.now) c.args.function.now c.args.at.now (c.args.at.now + (1 + c.len.result)) c.as_slice.result.now (ap (λ n. c.args.at.now + (1 + n)) c.len.ensures) c.as_slice.ensures
    (Refused c.in_err-locals_typed.field-0.0.rule c.in_err-locals_typed.field-0.0.node) c.in_err-locals_typed.ensures.row)

pub returns-clause-row : goal.returns-clause-row
returns-clause-row c =
    in_body (module_view c.args.environment.now.home.now) c.args.function.now c.args.at.now (c.args.at.now + (1 + c.len.result)) c.as_slice.result.now (ap (λ n. c.args.at.now + (1 + n)) c.len.ensures) c.as_slice.ensures
    (scope_view c.in_ok-context.context.scope) (around_view c.at_top.result c.new-labels.result.open.entries) c.as_slice-3.result.now c.locals_typed.new.at c.judge_stmts.result
    c.in_ok-locals_typed.ensures.row c.in_ok-locals_typed.ensures.counted c.in_ok-context.ensures.of (top_is c.at_top.result c.new-labels.result.open.entries c.at_top.ensures c.new-labels.ensures) c.as_slice-3.ensures c.judge_stmts.ensures.row

pub returns-clause-counted : goal.returns-clause-counted
returns-clause-counted c =
    in_count (module_view c.args.environment.now.home.now) c.args.function.now c.args.at.now (c.args.at.now + (1 + c.len.result)) c.as_slice.result.now (ap (λ n. c.args.at.now + (1 + n)) c.len.ensures) c.as_slice.ensures
    c.as_slice-3.result.now c.locals_typed.new.at c.judge_stmts.new.at c.judge_stmts.result c.in_ok-locals_typed.ensures.counted c.as_slice-3.ensures c.judge_stmts.ensures.counted

use Rattle.std.proofs.Common.{rules, arith}
use Rattle.std.proofs.lemmas.Result.{IfOk-weaker}
use Rattle.asm_tree.specs.Views.{module_view, function_view}
use Rattle.asm_validate_names.proofs.Order.{err_row}
use Rattle.asm_validate_names.proofs.Rest.{inner_own, inner_body}
use Rattle.asm_validate_names.proofs.functions.inner_names.Goals as goal

pub own_names-requires : goal.own_names-requires
own_names-requires c =
    let r = c.requires.room in
    omega arith

pub body_names-requires : goal.body_names-requires
body_names-requires c =
    let n = c.in_ok-own_names.ensures.counted in
    let r = c.requires.room in
    record { complete = c.requires.complete; room = omega arith }

pub returns-in_err-own_names-clause-row : goal.returns-in_err-own_names-clause-row
returns-in_err-own_names-clause-row c =
    err_row _ _ c.in_err-own_names.field-0.0 (search rules)
    (inner_own (module_view c.args.environment.now.home.now) (function_view c.args.function.now) c.args.at.now _ c.in_err-own_names.ensures.row)

pub returns-clause-row : goal.returns-clause-row
returns-clause-row c = inner_body (module_view c.args.environment.now.home.now) (function_view c.args.function.now) c.args.at.now c.own_names.new.at c.body_names.result c.in_ok-own_names.ensures.row c.in_ok-own_names.ensures.counted c.body_names.ensures.row

pub returns-clause-counted : goal.returns-clause-counted
returns-clause-counted c =
    let n = c.in_ok-own_names.ensures.counted in
    IfOk-weaker c.body_names.result _ _ (λ u h. omega arith) c.body_names.ensures.counted

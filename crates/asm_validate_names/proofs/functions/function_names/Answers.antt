use Rattle.std.proofs.Common.{rules, arith}
use Rattle.std.proofs.lemmas.Result.{IfOk-weaker}
use Rattle.asm_tree.specs.Views.{module_view, function_view}
use Rattle.asm_validate_names.specs.Seen.{names}
use Rattle.asm_validate_names.proofs.Order.{err_row, ok_row}
use Rattle.asm_validate_names.proofs.Rest.{function_own, function_inner}
use Rattle.asm_validate_names.proofs.functions.function_names.Goals as goal

pub inner_names-requires : goal.inner_names-requires
inner_names-requires c =
    let r = c.requires.room in
    record { complete = c.requires.complete; room = omega arith }

pub returns-in_err-declare-clause-row : goal.returns-in_err-declare-clause-row
returns-in_err-declare-clause-row c =
    err_row _ _ c.in_err-declare.field-0.0 (search rules)
    (function_own (module_view c.args.environment.now.home.now) (names c.args.seen.now) (function_view c.args.function.now) c.args.at.now _ c.in_err-declare.ensures.row)

pub returns-clause-row : goal.returns-clause-row
returns-clause-row c = function_inner (module_view c.args.environment.now.home.now) (names c.args.seen.now) (function_view c.args.function.now) c.args.at.now c.inner_names.result c.in_ok-declare.ensures.row c.inner_names.ensures.row

pub returns-clause-seen : goal.returns-clause-seen
returns-clause-seen c = ok_row c.inner_names.result c.in_ok-declare.ensures.seen

pub returns-clause-counted : goal.returns-clause-counted
returns-clause-counted c = IfOk-weaker c.inner_names.result _ _ (λ u h. omega arith) c.inner_names.ensures.counted

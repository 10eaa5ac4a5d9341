use Rattle.std.proofs.Common.{rules, ◌+◌, ap, ◌∙◌, arith}
use Rattle.asm_tree.specs.Views.{module_view, stmts_view}
use Rattle.asm_lang_valid.specs.Rows.{stmts_count}
use Rattle.asm_validate_names.specs.declared.refusal.AsmRefusal.TheVariants.{Refused}
use Rattle.asm_names.specs.Scopes.{scope_view}
use Rattle.asm_validate_names.proofs.Order.{err_row}
use Rattle.asm_validate_names.proofs.Rest.{body_is}
use Rattle.asm_validate_names.proofs.functions.body_names.Goals as goal

pub stmts_names-requires : goal.stmts_names-requires
stmts_names-requires c =
    let b = ap (λ l. stmts_count (stmts_view l)) c.as_slice.ensures in
    let r = c.requires.room in
    record { known = c.in_ok-scope.ensures.complete; room = omega arith }

pub returns-in_err-stmts_names-clause-row : goal.returns-in_err-stmts_names-clause-row
returns-in_err-stmts_names-clause-row c =
    err_row _ _ (Refused c.in_err-stmts_names.field-0.0.rule c.in_err-stmts_names.field-0.0.node) (search rules)
    (body_is (module_view c.args.environment.now.home.now) c.args.function.now (scope_view c.in_ok-scope.scope) c.as_slice.result.now c.args.at.now c.in_ok-scope.ensures.of c.as_slice.ensures ∙ c.in_err-stmts_names.ensures.is)

pub returns-clause-row : goal.returns-clause-row
returns-clause-row c = body_is (module_view c.args.environment.now.home.now) c.args.function.now (scope_view c.in_ok-scope.scope) c.as_slice.result.now c.args.at.now c.in_ok-scope.ensures.of c.as_slice.ensures ∙ c.in_ok-stmts_names.ensures.is

pub returns-clause-counted : goal.returns-clause-counted
returns-clause-counted c = c.in_ok-stmts_names.ensures.counted ∙ ap (λ l. c.args.at.now + stmts_count (stmts_view l)) c.as_slice.ensures

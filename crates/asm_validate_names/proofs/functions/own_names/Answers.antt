use Rattle.std.proofs.Common.{rules, length, map, sym, ap, ◌∙◌, arith}
use Rattle.std.proofs.lemmas.Result.{IfOk-weaker}
use Rattle.asm_tree.specs.Views.{param_view, local_view}
use Rattle.asm_validate_names.specs.Seen.{names}
use Rattle.asm_validate_names.proofs.Order.{err_row}
use Rattle.asm_validate_names.proofs.Rest.{no_names, params_length, locals_length, own_params, own_locals}
use Rattle.asm_validate_names.proofs.functions.own_names.Goals as goal

pub params_names-requires : goal.params_names-requires
params_names-requires c =
    let p = ap (λ l. length (map param_view l)) (sym c.as_slice.ensures) ∙ params_length c.as_slice.result.now in
    let r = c.requires in
    omega arith

pub locals_names-requires : goal.locals_names-requires
locals_names-requires c =
    let p = ap (λ l. length (map param_view l)) (sym c.as_slice.ensures) ∙ params_length c.as_slice.result.now in
    let l = ap (λ l. length (map local_view l)) (sym c.as_slice-2.ensures) ∙ locals_length c.as_slice-2.result.now in
    let n = c.in_ok-params_names.ensures.counted in
    let r = c.requires in
    omega arith

pub returns-in_err-params_names-clause-row : goal.returns-in_err-params_names-clause-row
returns-in_err-params_names-clause-row c =
    err_row _ _ c.in_err-params_names.field-0.0 (search rules)
    (own_params c.args.function.now (names c.with_hasher-own.result) c.as_slice.result.now c.args.at.now (no_names _ c.with_hasher-own.ensures.empty) c.as_slice.ensures _ c.in_err-params_names.ensures.row)

pub returns-clause-row : goal.returns-clause-row
returns-clause-row c =
    own_locals c.args.function.now (names c.with_hasher-own.result) c.as_slice.result.now c.args.at.now (no_names _ c.with_hasher-own.ensures.empty) c.as_slice.ensures
    (names c.params_names.new.seen) c.as_slice-2.result.now c.params_names.new.at c.in_ok-params_names.ensures.row c.in_ok-params_names.ensures.seen c.in_ok-params_names.ensures.counted c.as_slice-2.ensures
    c.locals_names.result c.locals_names.ensures.row

pub returns-clause-counted : goal.returns-clause-counted
returns-clause-counted c =
    let p = ap (λ l. length (map param_view l)) (sym c.as_slice.ensures) ∙ params_length c.as_slice.result.now in
    let l = ap (λ l. length (map local_view l)) (sym c.as_slice-2.ensures) ∙ locals_length c.as_slice-2.result.now in
    let n = c.in_ok-params_names.ensures.counted in
    IfOk-weaker c.locals_names.result _ _ (λ u h. omega arith) c.locals_names.ensures.counted

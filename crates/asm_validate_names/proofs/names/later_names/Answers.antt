use Rattle.std.proofs.Common.{rules, ap, ◌∙◌, arith}
use Rattle.sem_words.specs.Lists.{list_items}
use Rattle.asm_tree.specs.declared.tree.Module.{Module}
use Rattle.asm_tree.specs.Views.{exports_view}
use Rattle.asm_lang_valid.specs.Rows.{exports_count}
use Rattle.asm_validate_names.specs.Seen.{names}
use Rattle.asm_validate_names.proofs.Order.{err_row}
use Rattle.asm_validate_names.proofs.Bindings.{in_functions, in_tables, in_exports, functions_length, exports_at_is}
use Rattle.asm_validate_names.proofs.names.later_names.Goals as goal

pub functions_names-requires : goal.functions_names-requires
functions_names-requires c =
    let home = c.home-home.ensures in
    let functions = c.as_slice.ensures ∙ ap (λ (h : Module). list_items h.functions) home in
    let f = functions_length c.args.environment.now.home.now (names c.args.seen.now) c.args.at.now c.as_slice.result.now c.requires.before c.requires.place functions in
    let p = c.requires.place in
    let r = c.requires.room in
    record { complete = c.requires.complete; room = omega arith }

pub tables_names-requires : goal.tables_names-requires
tables_names-requires c =
    let home = c.home-home.ensures in
    let functions = c.as_slice.ensures ∙ ap (λ (h : Module). list_items h.functions) home in
    let tables = c.as_slice-2.ensures ∙ ap (λ (h : Module). list_items h.tables) home in
    let e = exports_at_is c.args.environment.now.home.now (names c.args.seen.now) c.args.at.now c.as_slice.result.now c.requires.before c.requires.place functions c.in_ok-functions_names.ensures.row (names c.functions_names.new.seen) c.functions_names.new.at c.as_slice-2.result.now c.in_ok-functions_names.ensures.seen c.in_ok-functions_names.ensures.counted tables in
    let r = c.requires.room in
    record { complete = c.requires.complete; room = omega arith }

pub exports_names-requires : goal.exports_names-requires
exports_names-requires c =
    let home = c.home-home.ensures in
    let functions = c.as_slice.ensures ∙ ap (λ (h : Module). list_items h.functions) home in
    let tables = c.as_slice-2.ensures ∙ ap (λ (h : Module). list_items h.tables) home in
    let e = exports_at_is c.args.environment.now.home.now (names c.args.seen.now) c.args.at.now c.as_slice.result.now c.requires.before c.requires.place functions c.in_ok-functions_names.ensures.row (names c.functions_names.new.seen) c.functions_names.new.at c.as_slice-2.result.now c.in_ok-functions_names.ensures.seen c.in_ok-functions_names.ensures.counted tables in
    let k = ap (λ (h : Module). exports_count (exports_view h.exports)) home in
    let n = c.in_ok-tables_names.ensures.counted in
    let r = c.requires.room in
    record { complete = c.requires.complete; room = omega arith }

pub returns-in_err-functions_names : goal.returns-in_err-functions_names
returns-in_err-functions_names c =
    let functions = c.as_slice.ensures ∙ ap (λ (h : Module). list_items h.functions) c.home-home.ensures in
    err_row c.from_residual.result _ c.in_err-functions_names.field-0.0 (search rules)
    (in_functions c.args.environment.now.home.now (names c.args.seen.now) c.args.at.now c.as_slice.result.now c.requires.before c.requires.place functions _ c.in_err-functions_names.ensures.row)

pub returns-in_err-tables_names : goal.returns-in_err-tables_names
returns-in_err-tables_names c =
    let home = c.home-home.ensures in
    let functions = c.as_slice.ensures ∙ ap (λ (h : Module). list_items h.functions) home in
    let tables = c.as_slice-2.ensures ∙ ap (λ (h : Module). list_items h.tables) home in
    err_row c.from_residual-in_err-tables_names.result _ c.in_err-tables_names.field-0.0 (search rules)
    (in_tables c.args.environment.now.home.now (names c.args.seen.now) c.args.at.now c.as_slice.result.now c.requires.before c.requires.place functions
    c.in_ok-functions_names.ensures.row (names c.functions_names.new.seen) c.functions_names.new.at c.as_slice-2.result.now c.in_ok-functions_names.ensures.seen c.in_ok-functions_names.ensures.counted tables _ c.in_err-tables_names.ensures.row)

pub returns : goal.returns
returns c =
    let home = c.home-home.ensures in
    let functions = c.as_slice.ensures ∙ ap (λ (h : Module). list_items h.functions) home in
    let tables = c.as_slice-2.ensures ∙ ap (λ (h : Module). list_items h.tables) home in
    in_exports c.args.environment.now.home.now (names c.args.seen.now) c.args.at.now c.as_slice.result.now c.requires.before c.requires.place functions
    c.in_ok-functions_names.ensures.row (names c.functions_names.new.seen) c.functions_names.new.at c.as_slice-2.result.now c.in_ok-functions_names.ensures.seen c.in_ok-functions_names.ensures.counted tables
    _ c.tables_names.new.at c.exports_names.result (ap (λ (h : Module). h.exports) home) c.in_ok-tables_names.ensures.row c.in_ok-tables_names.ensures.counted c.exports_names.ensures.row

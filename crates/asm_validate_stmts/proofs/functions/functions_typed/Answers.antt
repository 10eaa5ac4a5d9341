use Rattle.std.proofs.Common.{rules, ◌+◌, map, drop, sym, ap, ◌∙◌, arith}
use Rattle.asm_tree.specs.Views.{module_view, function_view}
use Rattle.asm_lang_valid.specs.Rows.{first}
use Rattle.asm_lang_valid.specs.TypeRows as rows
use Rattle.asm_validate_names.proofs.Rest.{functions_step}
use Rattle.asm_validate_names.proofs.Order.{none_rest, row_rest, err_row}
use Rattle.asm_validate_stmts.proofs.Rest.{functions_rest}
use Rattle.asm_validate_stmts.proofs.functions.functions_typed.Goals as goal

pub function_typed-requires : goal.function_typed-requires
function_typed-requires c =
    let k = functions_step c.args.functions.now c.loop-function.function-index c.function-item.result c.loop-function-test.true c.function-item.is in
    let counted = c.loop-function.invariant.counted in
    let r = c.requires.room in
    record { complete = c.requires.complete; room = omega arith }

pub returns-in_err-function_typed-clause-row : goal.returns-in_err-function_typed-clause-row
returns-in_err-function_typed-clause-row c =
    err_row _ _ c.in_err-function_typed.field-0.0 (search rules)
    (row_rest _ _ _ _ (c.loop-function.invariant.rest ∙ functions_rest _ c.args.functions.now c.loop-function.function-index c.function-item.result c.loop-function.at c.loop-function-test.true c.function-item.is) c.in_err-function_typed.ensures.row)

pub loop-function-preserved : goal.loop-function-preserved
loop-function-preserved c =
    let k = functions_step c.args.functions.now c.loop-function.function-index c.function-item.result c.loop-function-test.true c.function-item.is in
    let counted = c.loop-function.invariant.counted in
    let next = c.in_ok-function_typed.ensures.counted in
    let m = module_view c.args.environment.now.home.now in
    let left = map function_view (drop (c.loop-function.function-index + 1) c.args.functions.now) in
    record {
      rest =
          none_rest _ _ _ (c.loop-function.invariant.rest ∙ functions_rest _ c.args.functions.now c.loop-function.function-index c.function-item.result c.loop-function.at c.loop-function-test.true c.function-item.is) c.in_ok-function_typed.ensures.row
          ∙ ap (λ a. first (rows.functions_rows m a left)) (sym next);
      counted = omega arith;
    }

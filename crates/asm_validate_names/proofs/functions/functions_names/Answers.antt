use Rattle.std.proofs.Common.{rules, ◌+◌, ◌++◌, map, drop, sym, ap, ◌∙◌, arith}
use Rattle.asm_tree.specs.Views.{module_view, function_view}
use Rattle.asm_lang_valid.specs.Rows.{first, function_count}
use Rattle.asm_lang_valid.specs.NameRows as rows
use Rattle.asm_validate_names.specs.Seen.{names, texts_of}
use Rattle.asm_validate_names.proofs.Order.{none_rest, row_rest, err_row}
use Rattle.asm_validate_names.proofs.Rest.{functions_rest, functions_texts, functions_step}
use Rattle.asm_validate_names.proofs.functions.functions_names.Goals as goal

pub function_names-requires : goal.function_names-requires
function_names-requires c =
    let k = functions_step c.args.functions.now c.loop-function.function-index c.function-item.result c.loop-function-test.true c.function-item.is in
    let counted = c.loop-function.invariant.counted in
    let r = c.requires.room in
    record { complete = c.requires.complete; room = omega arith }

pub returns-in_err-function_names-clause-row : goal.returns-in_err-function_names-clause-row
returns-in_err-function_names-clause-row c =
    err_row _ _ c.in_err-function_names.field-0.0 (search rules)
    (row_rest _ _ _ _ (c.loop-function.invariant.rest ∙ functions_rest _ _ c.args.functions.now c.loop-function.function-index c.function-item.result c.loop-function.at c.loop-function-test.true c.function-item.is) c.in_err-function_names.ensures.row)

pub loop-function-preserved : goal.loop-function-preserved
loop-function-preserved c =
    let k = functions_step c.args.functions.now c.loop-function.function-index c.function-item.result c.loop-function-test.true c.function-item.is in
    let counted = c.loop-function.invariant.counted in
    let next = c.in_ok-function_names.ensures.counted in
    let m = module_view c.args.environment.now.home.now in
    let left = map function_view (drop (c.loop-function.function-index + 1) c.args.functions.now) in
    record {
      rest =
          none_rest _ _ _ (c.loop-function.invariant.rest ∙ functions_rest _ _ c.args.functions.now c.loop-function.function-index c.function-item.result c.loop-function.at c.loop-function-test.true c.function-item.is) c.in_ok-function_names.ensures.row
          ∙ ap (λ b. first (rows.functions_names m b left (c.loop-function.at + function_count (function_view c.function-item.result)))) (sym c.in_ok-function_names.ensures.seen)
          ∙ ap (λ a. first (rows.functions_names m (names c.function_names.new.seen) left a)) (sym next);
      seen = ap (λ b. b ++ texts_of left) c.in_ok-function_names.ensures.seen ∙ functions_texts _ c.args.functions.now c.loop-function.function-index c.function-item.result c.loop-function-test.true c.function-item.is ∙ c.loop-function.invariant.seen;
      counted = omega arith;
    }

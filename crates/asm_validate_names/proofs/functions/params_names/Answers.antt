use Rattle.std.proofs.Common.{rules, ◌+◌, ◌++◌, map, drop, sym, ap, ◌∙◌, arith}
use Rattle.asm_tree.specs.Views.{param_view}
use Rattle.asm_lang_valid.specs.Rows.{first}
use Rattle.asm_lang_valid.specs.NameRows as rows
use Rattle.asm_lang_valid.specs.NameRows.{param_texts}
use Rattle.asm_validate_names.proofs.Order.{none_rest, row_rest, err_row}
use Rattle.asm_validate_names.proofs.Rest.{params_rest, params_texts}
use Rattle.asm_validate_names.proofs.functions.params_names.Goals as goal

pub returns-in_err-declare-clause-row : goal.returns-in_err-declare-clause-row
returns-in_err-declare-clause-row c =
    err_row _ _ c.in_err-declare.field-0.0 (search rules)
    (row_rest _ _ _ _ (c.loop-param.invariant.rest ∙ params_rest _ c.args.params.now c.loop-param.param-index c.param-item.result c.loop-param.at c.loop-param-test.true c.param-item.is) c.in_err-declare.ensures.row)

pub loop-param-preserved : goal.loop-param-preserved
loop-param-preserved c =
    let counted = c.loop-param.invariant.counted in
    record {
      rest =
          none_rest _ _ _ (c.loop-param.invariant.rest ∙ params_rest _ c.args.params.now c.loop-param.param-index c.param-item.result c.loop-param.at c.loop-param-test.true c.param-item.is) c.in_ok-declare.ensures.row
          ∙ ap (λ b. first (rows.params_names b (map param_view (drop (c.loop-param.param-index + 1) c.args.params.now)) (c.loop-param.at + 1))) (sym c.in_ok-declare.ensures.seen);
      seen = ap (λ b. b ++ param_texts (map param_view (drop (c.loop-param.param-index + 1) c.args.params.now))) c.in_ok-declare.ensures.seen ∙ params_texts _ c.args.params.now c.loop-param.param-index c.param-item.result c.loop-param-test.true c.param-item.is ∙ c.loop-param.invariant.seen;
      counted = omega arith;
    }

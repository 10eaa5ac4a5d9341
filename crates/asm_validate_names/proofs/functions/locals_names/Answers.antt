use Rattle.std.proofs.Common.{rules, ◌+◌, map, drop, sym, ap, ◌∙◌, arith}
use Rattle.asm_tree.specs.Views.{local_view}
use Rattle.asm_lang_valid.specs.Rows.{first}
use Rattle.asm_lang_valid.specs.NameRows as rows
use Rattle.asm_validate_names.proofs.Order.{none_rest, row_rest, err_row}
use Rattle.asm_validate_names.proofs.Rest.{locals_rest}
use Rattle.asm_validate_names.proofs.functions.locals_names.Goals as goal

pub returns-in_err-declare-clause-row : goal.returns-in_err-declare-clause-row
returns-in_err-declare-clause-row c =
    err_row _ _ c.in_err-declare.field-0.0 (search rules)
    (row_rest _ _ _ _ (c.loop-local.invariant.rest ∙ locals_rest _ c.args.locals.now c.loop-local.local-index c.local-item.result c.loop-local.at c.loop-local-test.true c.local-item.is) c.in_err-declare.ensures.row)

pub loop-local-preserved : goal.loop-local-preserved
loop-local-preserved c =
    let counted = c.loop-local.invariant.counted in
    record {
      rest =
          none_rest _ _ _ (c.loop-local.invariant.rest ∙ locals_rest _ c.args.locals.now c.loop-local.local-index c.local-item.result c.loop-local.at c.loop-local-test.true c.local-item.is) c.in_ok-declare.ensures.row
          ∙ ap (λ b. first (rows.locals_names b (map local_view (drop (c.loop-local.local-index + 1) c.args.locals.now)) (c.loop-local.at + 1))) (sym c.in_ok-declare.ensures.seen);
      counted = omega arith;
    }

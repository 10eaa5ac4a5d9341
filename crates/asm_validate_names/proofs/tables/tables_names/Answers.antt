use Rattle.std.proofs.Common.{rules, ◌+◌, map, drop, sym, ap, ◌∙◌, arith}
use Rattle.asm_tree.specs.Views.{module_view, table_view}
use Rattle.asm_lang_valid.specs.Rows.{first}
use Rattle.asm_lang_valid.specs.NameRows as rows
use Rattle.asm_validate_names.proofs.Order.{none_rest, row_rest, err_row}
use Rattle.asm_validate_names.proofs.Members.{tables_rest}
use Rattle.asm_validate_names.proofs.tables.tables_names.Goals as goal

pub returns-in_err-table_names-clause-row : goal.returns-in_err-table_names-clause-row
returns-in_err-table_names-clause-row c =
    err_row _ _ c.in_err-table_names.field-0.0 (search rules)
    (row_rest _ _ _ _ (c.loop-table.invariant.rest ∙ tables_rest (module_view c.args.environment.now.home.now) _ c.args.tables.now c.loop-table.table-index c.table-item.result c.loop-table.at c.loop-table-test.true c.table-item.is) c.in_err-table_names.ensures.row)

pub loop-table-preserved : goal.loop-table-preserved
loop-table-preserved c =
    let counted = c.loop-table.invariant.counted in
    record {
      rest =
          none_rest _ _ _ (c.loop-table.invariant.rest ∙ tables_rest (module_view c.args.environment.now.home.now) _ c.args.tables.now c.loop-table.table-index c.table-item.result c.loop-table.at c.loop-table-test.true c.table-item.is) c.in_ok-table_names.ensures.row
          ∙ ap (λ b. first (rows.tables_names (module_view c.args.environment.now.home.now) b (map table_view (drop (c.loop-table.table-index + 1) c.args.tables.now)) (c.loop-table.at + 1))) (sym c.in_ok-table_names.ensures.seen);
      counted = omega arith;
    }

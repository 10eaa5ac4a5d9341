use Rattle.std.proofs.Common.{rules, ◌+◌, ◌++◌, map, drop, sym, ap, ◌∙◌, arith}
use Rattle.asm_tree.specs.Views.{module_view, table_view}
use Rattle.asm_lang_valid.specs.declared.rule.Rule.TheVariants.{TableSize}
use Rattle.asm_lang_valid.specs.Rows.{first, need}
use Rattle.asm_lang_valid.specs.TypeRows.{tables_rows}
use Rattle.asm_validate_names.proofs.Found.{first_before, first_after}
use Rattle.asm_validate_stmts.proofs.Rest.{tables_rest}
use Rattle.asm_validate_stmts.proofs.tables.tables_typed.Goals as goal

pub returns-in_err-needs : goal.returns-in_err-needs
returns-in_err-needs c =
    let m = module_view c.args.environment.now.home.now in
    let rest = tables_rows m (c.loop-table.node + 1) (map table_view (drop (c.loop-table.table-index + 1) c.args.tables.now)) in
    c.loop-table.invariant.rest
    ∙ tables_rest m c.args.tables.now c.loop-table.table-index c.table-item.result c.loop-table.node c.loop-table-test.true c.table-item.is
    ∙ ap (λ b. first (need b TableSize c.loop-table.node ++ rest)) (sym c.table_typed.ensures)
    ∙ first_before _ _ _ c.in_err-needs.ensures.row
    ∙ search rules

pub loop-table-preserved : goal.loop-table-preserved
loop-table-preserved c =
    let m = module_view c.args.environment.now.home.now in
    let rest = tables_rows m (c.loop-table.node + 1) (map table_view (drop (c.loop-table.table-index + 1) c.args.tables.now)) in
    let counted = c.loop-table.invariant.counted in
    record {
      rest =
          c.loop-table.invariant.rest
          ∙ tables_rest m c.args.tables.now c.loop-table.table-index c.table-item.result c.loop-table.node c.loop-table-test.true c.table-item.is
          ∙ ap (λ b. first (need b TableSize c.loop-table.node ++ rest)) (sym c.table_typed.ensures)
          ∙ first_after _ _ c.in_ok-needs.ensures.row;
      counted = omega arith;
    }

use Rattle.std.proofs.Common.{rules, ◌+◌, map, drop, sym, ap, ◌∙◌, arith}
use Rattle.asm_tree.specs.Views.{module_view, export_view}
use Rattle.asm_lang_valid.specs.Rows.{first}
use Rattle.asm_lang_valid.specs.NameRows as rows
use Rattle.asm_validate_names.specs.Seen.{names}
use Rattle.asm_validate_names.proofs.Order.{none_rest, row_rest, err_row}
use Rattle.asm_validate_names.proofs.Members.{keys_rest}
use Rattle.asm_validate_names.proofs.tables.keys_names.Goals as goal

pub returns-in_err-export_names : goal.returns-in_err-export_names
returns-in_err-export_names c =
    record {
      row =
          err_row c.from_residual.result (rows.keys_names (module_view c.args.environment.now.home.now) (names c.args.keys.now) (map export_view c.args.exports.now) c.args.at) c.in_err-export_names.field-0.0 (search rules)
          (row_rest _ _ _ _ (c.loop-export.invariant.rest ∙ keys_rest (module_view c.args.environment.now.home.now) _ c.args.exports.now c.loop-export.export-index c.export-item.result c.loop-export.node c.loop-export-test.true c.export-item.is) c.in_err-export_names.ensures.row);
    }

pub loop-export-preserved : goal.loop-export-preserved
loop-export-preserved c =
    let counted = c.loop-export.invariant.counted in
    record {
      rest =
          none_rest _ _ _ (c.loop-export.invariant.rest ∙ keys_rest (module_view c.args.environment.now.home.now) _ c.args.exports.now c.loop-export.export-index c.export-item.result c.loop-export.node c.loop-export-test.true c.export-item.is) c.in_ok-export_names.ensures.row
          ∙ ap (λ b. first (rows.keys_names (module_view c.args.environment.now.home.now) b (map export_view (drop (c.loop-export.export-index + 1) c.args.exports.now)) (c.loop-export.node + 1))) (sym c.in_ok-export_names.ensures.seen);
      counted = omega arith;
    }

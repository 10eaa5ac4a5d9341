use Rattle.std.proofs.Common.{rules, ◌+◌, ◌++◌, map, drop, sym, ap, ◌∙◌, arith}
use Rattle.asm_tree.specs.Views.{local_view}
use Rattle.asm_lang_valid.specs.declared.rule.Rule.TheVariants.{LiteralRange}
use Rattle.asm_lang_valid.specs.Rows.{first, need}
use Rattle.asm_lang_valid.specs.TypeRows.{locals_rows}
use Rattle.asm_validate_names.proofs.Found.{first_before, first_after}
use Rattle.asm_validate_stmts.proofs.Rest.{locals_rest}
use Rattle.asm_validate_stmts.proofs.functions.locals_typed.Goals as goal

pub returns-in_err-needs-clause-row : goal.returns-in_err-needs-clause-row
returns-in_err-needs-clause-row c =
    let rest = locals_rows (c.loop-local.at + 1) (map local_view (drop (c.loop-local.local-index + 1) c.args.locals.now)) in
    c.loop-local.invariant.rest
    ∙ locals_rest c.args.locals.now c.loop-local.local-index c.local-item.result c.loop-local.at c.loop-local-test.true c.local-item.is
    ∙ ap (λ b. first (need b LiteralRange c.loop-local.at ++ rest)) (sym c.literal_fits.ensures)
    ∙ first_before _ _ _ c.in_err-needs.ensures.row
    ∙ search rules

pub loop-local-preserved : goal.loop-local-preserved
loop-local-preserved c =
    let rest = locals_rows (c.loop-local.at + 1) (map local_view (drop (c.loop-local.local-index + 1) c.args.locals.now)) in
    let counted = c.loop-local.invariant.counted in
    record {
      rest =
          c.loop-local.invariant.rest
          ∙ locals_rest c.args.locals.now c.loop-local.local-index c.local-item.result c.loop-local.at c.loop-local-test.true c.local-item.is
          ∙ ap (λ b. first (need b LiteralRange c.loop-local.at ++ rest)) (sym c.literal_fits.ensures)
          ∙ first_after _ _ c.in_ok-needs.ensures.row;
      counted = omega arith;
    }

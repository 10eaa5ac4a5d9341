use Rattle.std.proofs.Common.{rules, ◌∙◌, arith}
use Rattle.asm_tree.specs.Views.{module_view}
use Rattle.asm_validate_names.proofs.Found.{first_before, first_after}
use Rattle.asm_validate_stmts.proofs.Rest.{globals_rest}
use Rattle.asm_validate_stmts.proofs.declarations.globals_typed.Goals as goal

pub returns-in_err-global_typed-clause-row : goal.returns-in_err-global_typed-clause-row
returns-in_err-global_typed-clause-row c =
    c.loop-global.invariant.rest
    ∙ globals_rest (module_view c.args.home.now) c.args.globals.now c.loop-global.global-index c.global-item.result c.loop-global.at c.loop-global-test.true c.global-item.is
    ∙ first_before _ _ _ c.in_err-global_typed.ensures
    ∙ search rules

pub loop-global-preserved : goal.loop-global-preserved
loop-global-preserved c =
    let counted = c.loop-global.invariant.counted in
    record {
      rest =
          c.loop-global.invariant.rest
          ∙ globals_rest (module_view c.args.home.now) c.args.globals.now c.loop-global.global-index c.global-item.result c.loop-global.at c.loop-global-test.true c.global-item.is
          ∙ first_after _ _ c.in_ok-global_typed.ensures;
      counted = omega arith;
    }

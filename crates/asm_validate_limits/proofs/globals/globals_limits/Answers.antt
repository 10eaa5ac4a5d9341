use Rattle.std.proofs.Common.{rules, Ok, Err, arith}
use Rattle.asm_tree.specs.Views.{module_view}
use Rattle.asm_validate_limits.proofs.Passes.{from_err}
use Rattle.asm_validate_limits.proofs.Items.{next_global, global_ends, no_globals}
use Rattle.asm_validate_limits.proofs.globals.globals_limits.Goals as goal

pub returns-in_err-global_limits : goal.returns-in_err-global_limits
returns-in_err-global_limits c =
    from_err _ _ c.args.tally.now _ _ c.in_err-global_limits.field-0.0 (search rules)
    (c.loop-before.invariant.rest c.loop-before.tally (Err c.in_err-global_limits.field-0.0) (global_ends (module_view c.args.home.now) c.args.globals.now c.loop-before.before c.index-globals-before.result c.loop-before-test.true c.index-globals-before.is c.loop-before.tally c.loop-before.tally c.in_err-global_limits.field-0.0 (c.in_err-global_limits.ensures c.loop-before.tally)))

pub loop-before-preserved : goal.loop-before-preserved
loop-before-preserved c =
    let counted = c.loop-before.invariant.counted in
    record {
      rest = λ u r h. c.loop-before.invariant.rest u r (next_global (module_view c.args.home.now) c.args.globals.now c.loop-before.before c.index-globals-before.result c.loop-before-test.true c.index-globals-before.is c.loop-before.tally (c.in_ok-global_limits.ensures c.loop-before.tally) u r h);
      counted = omega arith;
    }

pub returns : goal.returns
returns c = c.loop-before.invariant.rest c.loop-before.tally (Ok tt) (no_globals (module_view c.args.home.now) c.args.globals.now c.loop-before.before c.loop-before.tally c.loop-before-test.false)

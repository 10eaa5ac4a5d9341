use Rattle.std.proofs.Common.{rules, Ok, Err, arith}
use Rattle.asm_tree.specs.Views.{module_view}
use Rattle.asm_validate_limits.proofs.Passes.{from_err}
use Rattle.asm_validate_limits.proofs.Items.{functions_step, next_function, function_ends, no_functions}
use Rattle.asm_validate_limits.proofs.functions.functions_limits.Goals as goal

pub function_limits-requires : goal.function_limits-requires
function_limits-requires c =
    let k = functions_step (module_view c.args.environment.now.home.now) c.args.functions.now c.loop-before.before c.index-functions-before.result c.loop-before-test.true c.index-functions-before.is in
    let counted = c.loop-before.invariant.counted in
    let r = c.requires.room in
    record { complete = c.requires.complete; of = c.loop-before.invariant.of; room = omega arith }

pub returns-in_err-function_limits : goal.returns-in_err-function_limits
returns-in_err-function_limits c =
    from_err _ _ c.args.tally.now _ _ c.in_err-function_limits.field-0.0 (search rules)
    (c.loop-before.invariant.rest c.function_limits.new.tally (Err c.in_err-function_limits.field-0.0) (function_ends (module_view c.args.environment.now.home.now) c.args.functions.now c.loop-before.before c.index-functions-before.result c.loop-before-test.true c.index-functions-before.is c.loop-before.tally c.function_limits.new.tally c.in_err-function_limits.field-0.0 c.in_err-function_limits.ensures))

pub loop-before-preserved : goal.loop-before-preserved
loop-before-preserved c =
    let k = functions_step (module_view c.args.environment.now.home.now) c.args.functions.now c.loop-before.before c.index-functions-before.result c.loop-before-test.true c.index-functions-before.is in
    let counted = c.loop-before.invariant.counted in
    let next = c.in_ok-function_limits.ensures.counted in
    record {
      rest = λ u r h. c.loop-before.invariant.rest u r (next_function (module_view c.args.environment.now.home.now) c.args.functions.now c.loop-before.before c.index-functions-before.result c.loop-before-test.true c.index-functions-before.is c.loop-before.tally c.function_limits.new.tally c.in_ok-function_limits.ensures u r h);
      counted = omega arith;
      of = c.in_ok-function_limits.ensures.of _ c.loop-before.invariant.of;
    }

pub returns : goal.returns
returns c = c.loop-before.invariant.rest c.loop-before.tally (Ok tt) (no_functions (module_view c.args.environment.now.home.now) c.args.functions.now c.loop-before.before c.loop-before.tally c.loop-before-test.false)

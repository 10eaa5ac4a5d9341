use Rattle.std.proofs.Common.{◌*◌, ◌^◌, map}
use Rattle.wasm_binary_write.specs.Views.{joined_of}
use Rattle.wasm_binary_write.proofs.Joining.{joined_step, one_run_below}
use Rattle.wasm_binary_write.proofs.code.runs_of.Goals as goal

pub loop-run-preserved : goal.loop-run-preserved
loop-run-preserved c = record {
  counted = one_run_below c.loop-run.run-index c.in_ok-last.last (c.in_ok-last.ensures.count (c.loop-run.run-index * 2 ^ 32) c.loop-run.invariant.counted);
  so_far = joined_step (map joined_of c.loop-run.done.items) (map joined_of c.next_run.new.done.items) _ c.args.locals.now c.loop-run.run-index _ c.loop-run.last c.in_ok-last.last
      c.loop-run-test.true c.in_ok-last.ensures.value c.loop-run.invariant.so_far;
}

use Rattle.wasm_tree.specs.Views.{module_of}
use Rattle.wasm_run.proofs.Callees.{callee_at}
use Rattle.wasm_run.proofs.session.run_calls.Goals as goal

pub run_one-requires-clause-callee : goal.run_one-requires-clause-callee
run_one-requires-clause-callee c = callee_at (module_of c.args.«module».now) c.args.calls.now c.args.callees.now c.loop-i.i c.index-calls-i.result c.requires.callees c.loop-i-test.true c.index-calls-i.is

use Rattle.wasm_run.proofs.Callees.{callee_at}
use Rattle.wasm_run.proofs.calls.first_call.Goals as goal

pub fits_call-requires : goal.fits_call-requires
fits_call-requires c = callee_at c.args.valid.now c.args.calls.now c.args.functions.now c.loop-i.i c.index-calls-i.result c.requires c.loop-i-test.true c.index-calls-i.is

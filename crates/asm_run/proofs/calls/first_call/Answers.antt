use Rattle.asm_tree.specs.Views.{module_view}
use Rattle.asm_run_state.proofs.Numbers.{callee_at}
use Rattle.asm_run.proofs.calls.first_call.Goals as goal

pub fits_call-requires : goal.fits_call-requires
fits_call-requires c =
    callee_at (module_view c.args.checked.now) c.args.calls.now c.args.callees.now c.loop-i.i c.index-calls-i.result _ c.requires c.loop-i-test.true c.index-calls-i.is

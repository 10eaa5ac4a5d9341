use Rattle.std.proofs.Common.{arith}
use Rattle.std.proofs.lemmas.Grind.{common_steps}
use Rattle.wasm_run_frames.proofs.Zeros.{zeros_more}
use Rattle.wasm_run_frames.proofs.entering.add_zeros.Goals as goal

pub loop-run-preserved : goal.loop-run-preserved
loop-run-preserved c = grind (arith, common_steps, zeros_more)

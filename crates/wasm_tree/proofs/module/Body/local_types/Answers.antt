use Rattle.std.proofs.Common.{arith}
use Rattle.std.proofs.lemmas.Grind.{common_steps}
use Rattle.wasm_tree.proofs.Runs.{locals_more}
use Rattle.wasm_tree.proofs.module.Body.local_types.Goals as goal

pub loop-run-preserved : goal.loop-run-preserved
loop-run-preserved c = grind (arith, common_steps, locals_more)

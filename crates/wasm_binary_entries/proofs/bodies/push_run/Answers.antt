use Rattle.std.proofs.Common.{arith}
use Rattle.std.proofs.lemmas.Grind.{common_steps}
use Rattle.wasm_tree.proofs.Runs.{locals_end}
use Rattle.wasm_binary_entries.proofs.bodies.push_run.Goals as goal

pub returns-in-Ok : goal.returns-in-Ok
returns-in-Ok c = grind (arith, common_steps, locals_end)

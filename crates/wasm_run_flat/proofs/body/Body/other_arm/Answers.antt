use Rattle.std.proofs.Common.{ap}
use Rattle.wasm_run_flat.specs.declared.body.Jump.{Jump}
use Rattle.wasm_run_flat.specs.Jumps.{other_arm}
use Rattle.wasm_run_flat.proofs.body.Body.other_arm.Goals as goal

pub returns : goal.returns
unfolding other_arm
returns c = ap (λ (j : Jump). j.other) c.jump.ensures

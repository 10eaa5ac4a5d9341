use Rattle.std.proofs.Common.{ap}
use Rattle.wasm_run_flat.specs.declared.body.Jump.{Jump}
use Rattle.wasm_run_flat.specs.Jumps.{past_end}
use Rattle.wasm_run_flat.proofs.body.Body.past_end.Goals as goal

pub returns : goal.returns
unfolding past_end
returns c = ap (λ (j : Jump). j.past) c.jump.ensures

use Rattle.std.proofs.Common.{ap}
use Rattle.std.specs.Prelude.{not}
use Rattle.wasm2js_build.specs.Steps.{is_left_in_arms}
use Rattle.wasm2js_build.proofs.light.is_kept.Goals as goal

pub returns : goal.returns
unfolding is_left_in_arms
returns c = ap not c.spoils.ensures

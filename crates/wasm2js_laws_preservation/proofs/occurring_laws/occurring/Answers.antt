use Rattle.wasm2js_laws_preservation.proofs.OccurringKept.{occurring_are_kept}
use Rattle.wasm2js_laws_preservation.proofs.occurring_laws.occurring.Goals as goal

pub returns : goal.returns
returns c = occurring_are_kept

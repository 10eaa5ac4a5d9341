use Rattle.wasm2js_laws_preservation.proofs.ComputedEach.{all_is_kept}
use Rattle.wasm2js_laws_preservation.proofs.computed_laws.code.Goals as goal

pub returns : goal.returns
returns c = all_is_kept

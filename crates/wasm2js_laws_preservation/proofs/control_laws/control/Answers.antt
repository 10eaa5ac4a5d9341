use Rattle.wasm2js_laws_preservation.proofs.ControlKept.{code_is_kept}
use Rattle.wasm2js_laws_preservation.proofs.control_laws.control.Goals as goal

pub returns : goal.returns
returns c = code_is_kept

use Rattle.wasm2js_laws_preservation.proofs.InstructionsComputing.{plains_are_kept}
use Rattle.wasm2js_laws_preservation.proofs.instructions_laws.plains.Goals as goal

pub returns : goal.returns
returns c = plains_are_kept
